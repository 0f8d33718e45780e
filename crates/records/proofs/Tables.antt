-- The code's texts of reserved rows, one for each table and each length of an ID, are the rules' tables: computed by the checker. Assumes nothing.
use mathlib.Core.Path.{◌≡◌, refl}
use mathlib.Core.List.{[], ◌∷◌, ◌++◌}
use Rattle.std.specs.Prelude.{Option, None}
use lib.ListN.{length}
use Rattle.values.specs.Bytes.{Bytes, ascii}
use Rattle.rules.specs.Known.{Number as Asked}
use Rattle.rules.specs.Reserved.{info_rows, info_rows4_3, info_rows4_4, format_rows, format_rows4_3, format_rows4_4, format_rows4_5, look_row}
use Rattle.records.specs.Definitions.{outline, rows_in}
use Rattle.records.proofs.Definitions.{Found, length_told, length_none}

module _ (id : Bytes) where
  abbrev Is-info-4-3 : Option (Asked × Bytes) → Type 0
  Is-info-4-3 o = o ≡ outline (look_row id (info_rows ++ info_rows4_3))

  pub info_4_3_of_2 : length id ≡ 2 → {o : Option (Asked × Bytes)} → Found (ascii "ACA IAFA FADR IAA1 SAN1 IDP1 INS1 IBQ1 FMQ1 FSB4 IDB0 fH20 fH30 fCN1 I") id o → Is-info-4-3 o
  unfolding rows_in
  info_4_3_of_2 e f = length_told (info_rows ++ info_rows4_3) (ascii "ACA IAFA FADR IAA1 SAN1 IDP1 INS1 IBQ1 FMQ1 FSB4 IDB0 fH20 fH30 fCN1 I") 2 refl id e f

  pub info_4_3_of_3 : length id ≡ 3 → {o : Option (Asked × Bytes)} → Found (ascii "ADFR IADRR IEND1 IMQ01 I") id o → Is-info-4-3 o
  unfolding rows_in
  info_4_3_of_3 e f = length_told (info_rows ++ info_rows4_3) (ascii "ADFR IADRR IEND1 IMQ01 I") 3 refl id e f

  pub info_4_3_of_4 : length id ≡ 4 → {o : Option (Asked × Bytes)} → Found (ascii "CICN2 I") id o → Is-info-4-3 o
  unfolding rows_in
  info_4_3_of_4 e f = length_told (info_rows ++ info_rows4_3) (ascii "CICN2 I") 4 refl id e f

  pub info_4_3_of_5 : length id ≡ 5 → {o : Option (Asked × Bytes)} → Found (ascii "CIGARA S1000G0 fNOVEL0 fSVLEN. IDPADJ. ICNADJ. ICIPOS2 ICIEND2 ICILEN2 IDGVID1 SPARID1 SEVENT1 S") id o → Is-info-4-3 o
  unfolding rows_in
  info_4_3_of_5 e f = length_told (info_rows ++ info_rows4_3) (ascii "CIGARA S1000G0 fNOVEL0 fSVLEN. IDPADJ. ICNADJ. ICIPOS2 ICIEND2 ICILEN2 IDGVID1 SPARID1 SEVENT1 S") 5 refl id e f

  pub info_4_3_of_6 : length id ≡ 6 → {o : Option (Asked × Bytes)} → Found (ascii "SVTYPE1 SHOMLEN. IHOMSEQ. SBKPTID. SMATEID. SMEINFO4 S") id o → Is-info-4-3 o
  unfolding rows_in
  info_4_3_of_6 e f = length_told (info_rows ++ info_rows4_3) (ascii "SVTYPE1 SHOMLEN. IHOMSEQ. SBKPTID. SMATEID. SMEINFO4 S") 6 refl id e f

  pub info_4_3_of_7 : length id ≡ 7 → {o : Option (Asked × Bytes)} → Found (ascii "SOMATIC0 fCICNADJ. IMETRANS4 SDBVARID1 SDBRIPID1 S") id o → Is-info-4-3 o
  unfolding rows_in
  info_4_3_of_7 e f = length_told (info_rows ++ info_rows4_3) (ascii "SOMATIC0 fCICNADJ. IMETRANS4 SDBVARID1 SDBRIPID1 S") 7 refl id e f

  pub info_4_3_of_9 : length id ≡ 9 → {o : Option (Asked × Bytes)} → Found (ascii "VALIDATED0 fIMPRECISE0 f") id o → Is-info-4-3 o
  unfolding rows_in
  info_4_3_of_9 e f = length_told (info_rows ++ info_rows4_3) (ascii "VALIDATED0 fIMPRECISE0 f") 9 refl id e f

  pub info_4_3_of_none : (length id ≡ 2 → ⊥) → (length id ≡ 3 → ⊥) → (length id ≡ 4 → ⊥) → (length id ≡ 5 → ⊥) → (length id ≡ 6 → ⊥) → (length id ≡ 7 → ⊥) → (length id ≡ 9 → ⊥) → Is-info-4-3 None
  info_4_3_of_none n2 n3 n4 n5 n6 n7 n9 = length_none (info_rows ++ info_rows4_3) (2 ∷ 3 ∷ 4 ∷ 5 ∷ 6 ∷ 7 ∷ 9 ∷ []) refl id (n2, (n3, (n4, (n5, (n6, (n7, (n9, tt)))))))

  abbrev Is-info-4-4 : Option (Asked × Bytes) → Type 0
  Is-info-4-4 o = o ≡ outline (look_row id (info_rows ++ info_rows4_4))

  pub info_4_4_of_2 : length id ≡ 2 → {o : Option (Asked × Bytes)} → Found (ascii "ACA IAFA FADR IAA1 SAN1 IDP1 INS1 IBQ1 FMQ1 FSB4 IDB0 fH20 fH30 fRNA IRB. ICNA F") id o → Is-info-4-4 o
  unfolding rows_in
  info_4_4_of_2 e f = length_told (info_rows ++ info_rows4_4) (ascii "ACA IAFA FADR IAA1 SAN1 IDP1 INS1 IBQ1 FMQ1 FSB4 IDB0 fH20 fH30 fRNA IRB. ICNA F") 2 refl id e f

  pub info_4_4_of_3 : length id ≡ 3 → {o : Option (Asked × Bytes)} → Found (ascii "ADFR IADRR IEND1 IMQ01 IRUL. IRUB. IRUS. SRUC. F") id o → Is-info-4-4 o
  unfolding rows_in
  info_4_4_of_3 e f = length_told (info_rows ++ info_rows4_4) (ascii "ADFR IADRR IEND1 IMQ01 IRUL. IRUB. IRUS. SRUC. F") 3 refl id e f

  pub info_4_4_of_4 : length id ≡ 4 → {o : Option (Asked × Bytes)} → Found (ascii "CIRB. ICICN. F") id o → Is-info-4-4 o
  unfolding rows_in
  info_4_4_of_4 e f = length_told (info_rows ++ info_rows4_4) (ascii "CIRB. ICICN. F") 4 refl id e f

  pub info_4_4_of_5 : length id ≡ 5 → {o : Option (Asked × Bytes)} → Found (ascii "CIGARA S1000G0 fNOVEL0 fSVLENA ICIPOS. ICIEND. ICILEN. IDGVIDA SPARIDA SEVENTA SCIRUC. F") id o → Is-info-4-4 o
  unfolding rows_in
  info_4_4_of_5 e f = length_told (info_rows ++ info_rows4_4) (ascii "CIGARA S1000G0 fNOVEL0 fSVLENA ICIPOS. ICIEND. ICILEN. IDGVIDA SPARIDA SEVENTA SCIRUC. F") 5 refl id e f

  pub info_4_4_of_6 : length id ≡ 6 → {o : Option (Asked × Bytes)} → Found (ascii "SVTYPE1 SHOMLENA IHOMSEQA SBKPTIDA SMATEIDA SMEINFO. S") id o → Is-info-4-4 o
  unfolding rows_in
  info_4_4_of_6 e f = length_told (info_rows ++ info_rows4_4) (ascii "SVTYPE1 SHOMLENA IHOMSEQA SBKPTIDA SMATEIDA SMEINFO. S") 6 refl id e f

  pub info_4_4_of_7 : length id ≡ 7 → {o : Option (Asked × Bytes)} → Found (ascii "SOMATIC0 fDBVARIDA SDBRIPIDA SSVCLAIMA SMETRANS. S") id o → Is-info-4-4 o
  unfolding rows_in
  info_4_4_of_7 e f = length_told (info_rows ++ info_rows4_4) (ascii "SOMATIC0 fDBVARIDA SDBRIPIDA SSVCLAIMA SMETRANS. S") 7 refl id e f

  pub info_4_4_of_9 : length id ≡ 9 → {o : Option (Asked × Bytes)} → Found (ascii "VALIDATED0 fIMPRECISE0 fEVENTTYPEA S") id o → Is-info-4-4 o
  unfolding rows_in
  info_4_4_of_9 e f = length_told (info_rows ++ info_rows4_4) (ascii "VALIDATED0 fIMPRECISE0 fEVENTTYPEA S") 9 refl id e f

  pub info_4_4_of_none : (length id ≡ 2 → ⊥) → (length id ≡ 3 → ⊥) → (length id ≡ 4 → ⊥) → (length id ≡ 5 → ⊥) → (length id ≡ 6 → ⊥) → (length id ≡ 7 → ⊥) → (length id ≡ 9 → ⊥) → Is-info-4-4 None
  info_4_4_of_none n2 n3 n4 n5 n6 n7 n9 = length_none (info_rows ++ info_rows4_4) (2 ∷ 3 ∷ 4 ∷ 5 ∷ 6 ∷ 7 ∷ 9 ∷ []) refl id (n2, (n3, (n4, (n5, (n6, (n7, (n9, tt)))))))

  abbrev Is-format-4-3 : Option (Asked × Bytes) → Type 0
  Is-format-4-3 o = o ≡ outline (look_row id (format_rows ++ format_rows4_3))

  pub format_4_3_of_2 : length id ≡ 2 → {o : Option (Asked × Bytes)} → Found (ascii "ADR IECA IDP1 IGQ1 IMQ1 IPQ1 IPS1 IFT1 SGT1 SHQ2 IGLG FGPG FPLG IPPG INQ1 ICN1 I") id o → Is-format-4-3 o
  unfolding rows_in
  format_4_3_of_2 e f = length_told (format_rows ++ format_rows4_3) (ascii "ADR IECA IDP1 IGQ1 IMQ1 IPQ1 IPS1 IFT1 SGT1 SHQ2 IGLG FGPG FPLG IPPG INQ1 ICN1 I") 2 refl id e f

  pub format_4_3_of_3 : length id ≡ 3 → {o : Option (Asked × Bytes)} → Found (ascii "ADFR IADRR ICNQ1 FCNLG FCNPG FHAP1 I") id o → Is-format-4-3 o
  unfolding rows_in
  format_4_3_of_3 e f = length_told (format_rows ++ format_rows4_3) (ascii "ADFR IADRR ICNQ1 FCNLG FCNPG FHAP1 I") 3 refl id e f

  pub format_4_3_of_4 : length id ≡ 4 → {o : Option (Asked × Bytes)} → Found (ascii "AHAP1 I") id o → Is-format-4-3 o
  unfolding rows_in
  format_4_3_of_4 e f = length_told (format_rows ++ format_rows4_3) (ascii "AHAP1 I") 4 refl id e f

  pub format_4_3_of_none : (length id ≡ 2 → ⊥) → (length id ≡ 3 → ⊥) → (length id ≡ 4 → ⊥) → Is-format-4-3 None
  format_4_3_of_none n2 n3 n4 = length_none (format_rows ++ format_rows4_3) (2 ∷ 3 ∷ 4 ∷ []) refl id (n2, (n3, (n4, tt)))

  abbrev Is-format-4-4 : Option (Asked × Bytes) → Type 0
  Is-format-4-4 o = o ≡ outline (look_row id (format_rows ++ format_rows4_4))

  pub format_4_4_of_2 : length id ≡ 2 → {o : Option (Asked × Bytes)} → Found (ascii "ADR IECA IDP1 IGQ1 IMQ1 IPQ1 IPS1 IFT1 SGT1 SHQ2 IGLG FGPG FPLG IPPG INQ1 ICN1 F") id o → Is-format-4-4 o
  unfolding rows_in
  format_4_4_of_2 e f = length_told (format_rows ++ format_rows4_4) (ascii "ADR IECA IDP1 IGQ1 IMQ1 IPQ1 IPS1 IFT1 SGT1 SHQ2 IGLG FGPG FPLG IPPG INQ1 ICN1 F") 2 refl id e f

  pub format_4_4_of_3 : length id ≡ 3 → {o : Option (Asked × Bytes)} → Found (ascii "ADFR IADRR ICNQ1 FCNLG FCNPG FHAP1 IPSLP SPSOP IPSQP I") id o → Is-format-4-4 o
  unfolding rows_in
  format_4_4_of_3 e f = length_told (format_rows ++ format_rows4_4) (ascii "ADFR IADRR ICNQ1 FCNLG FCNPG FHAP1 IPSLP SPSOP IPSQP I") 3 refl id e f

  pub format_4_4_of_4 : length id ≡ 4 → {o : Option (Asked × Bytes)} → Found (ascii "AHAP1 ICICN2 F") id o → Is-format-4-4 o
  unfolding rows_in
  format_4_4_of_4 e f = length_told (format_rows ++ format_rows4_4) (ascii "AHAP1 ICICN2 F") 4 refl id e f

  pub format_4_4_of_none : (length id ≡ 2 → ⊥) → (length id ≡ 3 → ⊥) → (length id ≡ 4 → ⊥) → Is-format-4-4 None
  format_4_4_of_none n2 n3 n4 = length_none (format_rows ++ format_rows4_4) (2 ∷ 3 ∷ 4 ∷ []) refl id (n2, (n3, (n4, tt)))

  abbrev Is-format-4-5 : Option (Asked × Bytes) → Type 0
  Is-format-4-5 o = o ≡ outline (look_row id (format_rows ++ format_rows4_4 ++ format_rows4_5))

  pub format_4_5_of_2 : length id ≡ 2 → {o : Option (Asked × Bytes)} → Found (ascii "ADR IECA IDP1 IGQ1 IMQ1 IPQ1 IPS1 IFT1 SGT1 SHQ2 IGLG FGPG FPLG IPPG INQ1 ICN1 F") id o → Is-format-4-5 o
  unfolding rows_in
  format_4_5_of_2 e f = length_told (format_rows ++ format_rows4_4 ++ format_rows4_5) (ascii "ADR IECA IDP1 IGQ1 IMQ1 IPQ1 IPS1 IFT1 SGT1 SHQ2 IGLG FGPG FPLG IPPG INQ1 ICN1 F") 2 refl id e f

  pub format_4_5_of_3 : length id ≡ 3 → {o : Option (Asked × Bytes)} → Found (ascii "ADFR IADRR ICNQ1 FCNLG FCNPG FHAP1 IPSLP SPSOP IPSQP ILEN1 ILAA. ILADLRILECLAILGLLGFLGPLGFLPLLGILPPLGI") id o → Is-format-4-5 o
  unfolding rows_in
  format_4_5_of_3 e f = length_told (format_rows ++ format_rows4_4 ++ format_rows4_5) (ascii "ADFR IADRR ICNQ1 FCNLG FCNPG FHAP1 IPSLP SPSOP IPSQP ILEN1 ILAA. ILADLRILECLAILGLLGFLGPLGFLPLLGILPPLGI") 3 refl id e f

  pub format_4_5_of_4 : length id ≡ 4 → {o : Option (Asked × Bytes)} → Found (ascii "AHAP1 ICICN2 FLADFLRILADRLRI") id o → Is-format-4-5 o
  unfolding rows_in
  format_4_5_of_4 e f = length_told (format_rows ++ format_rows4_4 ++ format_rows4_5) (ascii "AHAP1 ICICN2 FLADFLRILADRLRI") 4 refl id e f

  pub format_4_5_of_none : (length id ≡ 2 → ⊥) → (length id ≡ 3 → ⊥) → (length id ≡ 4 → ⊥) → Is-format-4-5 None
  format_4_5_of_none n2 n3 n4 = length_none (format_rows ++ format_rows4_4 ++ format_rows4_5) (2 ∷ 3 ∷ 4 ∷ []) refl id (n2, (n3, (n4, tt)))

pub ruleset info_4_3 = (info_4_3_of_2, info_4_3_of_3, info_4_3_of_4, info_4_3_of_5, info_4_3_of_6, info_4_3_of_7, info_4_3_of_9, info_4_3_of_none)

pub ruleset info_4_4 = (info_4_4_of_2, info_4_4_of_3, info_4_4_of_4, info_4_4_of_5, info_4_4_of_6, info_4_4_of_7, info_4_4_of_9, info_4_4_of_none)

pub ruleset format_4_3 = (format_4_3_of_2, format_4_3_of_3, format_4_3_of_4, format_4_3_of_none)

pub ruleset format_4_4 = (format_4_4_of_2, format_4_4_of_3, format_4_4_of_4, format_4_4_of_none)

pub ruleset format_4_5 = (format_4_5_of_2, format_4_5_of_3, format_4_5_of_4, format_4_5_of_none)
