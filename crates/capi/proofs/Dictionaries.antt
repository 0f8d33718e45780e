-- The answers of the dictionary call as numbers, on plain values. Assumes nothing.
use Prim.Native.Nat.{ℕ}
use mathlib.Core.Path.{◌≡◌, ap, ◌∙◌, subst₂}
use mathlib.Core.List.{List}
use Rattle.std.specs.Prelude.{Option}
use lib.Seq.{sets}
use Rattle.entries.specs.declared.form.Form.{Form}
use Rattle.rules.specs.Version.{Version}
use Rattle.entries.specs.Tables.{stored as stored_in}
use Rattle.header.specs.Parsers.{read_into}
use Rattle.dictionary.specs.Answers.{dictionary_number, DictionariesMeaning, DictionaryCall}
use Rattle.dictionary.specs.declared.string_maps.DictionaryAnswer.{DictionaryAnswer}
use Rattle.capi.specs.Answers.{dictionaries_in, dictionaries_in_c}
use Rattle.capi.specs.declared.VcfhDictionaries.{VcfhDictionaries}

abbrev numbers : DictionariesMeaning → VcfhDictionaries
numbers t = record { number = t.number; line = t.line; start = t.start; entries = t.entries; strings = t.strings; contigs = t.contigs }

-- a call with the form and the version that were asked for
module _ {f form : Form} (k : f ≡ form) {imposed wanted : Option Version} (e : imposed ≡ wanted) {h t s c : List ℕ} {a : DictionaryAnswer} {t' s' c' : List ℕ}
    (call : DictionaryCall f imposed h t s c a t' s' c') where
  asked : DictionaryCall form wanted h t s c a t' s' c'
  asked = subst₂ (λ (x : Form) (i : Option Version). DictionaryCall x i h t s c a t' s' c') k e call

  pub dictionary_answers : {n : ℕ} → n ≡ dictionary_number a.outcome
      → record { number = n; line = a.line; start = a.start; entries = a.entries; strings = a.strings; contigs = a.contigs } ≡ dictionaries_in_c (read_into form wanted t h) (dictionaries_in form wanted h t s c)
  dictionary_answers q =
      ap (λ k. record { number = k; line = a.line; start = a.start; entries = a.entries; strings = a.strings; contigs = a.contigs }) q ∙ ap numbers asked.answer

  pub dictionary_stored : t' ≡ stored_in form t 0 (read_into form wanted t h).entries
  dictionary_stored = asked.table

  pub strings_written : s' ≡ sets s 0 (dictionaries_in form wanted h t s c).strings
  strings_written = asked.strings

  pub contigs_written : c' ≡ sets c 0 (dictionaries_in form wanted h t s c).contigs
  contigs_written = asked.contigs
