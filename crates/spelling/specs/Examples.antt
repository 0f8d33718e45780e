-- Document 02, §4: entries and what is listed of them, computed by the checker. Assumes nothing.
use Rattle.std.specs.Prelude.{◌≡◌, refl, [], ◌∷◌, true, false, None, Some, Ok, Err}
use Rattle.spelling.specs.Odd.{listing, answer_of, odd_answer, odd_list}
use Rattle.spelling.specs.declared.odd.OddRefusal.TheVariants.{NotWellFormed, ListTooShort}

-- entries 0 to 3, of which 1 and 3 carry an oddly spelled number
listed : listing 0 (Some false) (listing 1 (Some true) (listing 2 (Some false) (listing 3 (Some true) (Some [])))) ≡ Some (1 ∷ 3 ∷ [])
listed = refl

-- one that is refused, behind the others too
refused : listing 0 (Some true) (listing 1 None (Some [])) ≡ None
refused = refl

-- room for exactly these, and one word less
full : (odd_answer 2 (Some (1 ∷ 3 ∷ [])) ≡ answer_of (Ok tt) 2) × (odd_list (7 ∷ 7 ∷ []) (Some (1 ∷ 3 ∷ [])) ≡ 1 ∷ 3 ∷ [])
full = (refl, refl)

short : (odd_answer 1 (Some (1 ∷ 3 ∷ [])) ≡ answer_of (Err ListTooShort) 0) × (odd_list (7 ∷ []) (Some (1 ∷ 3 ∷ [])) ≡ 7 ∷ [])
short = (refl, refl)

-- past the listed ones the list stays, and it stays where the call is refused
left : (odd_list (7 ∷ 7 ∷ 7 ∷ []) (Some (1 ∷ 3 ∷ [])) ≡ 1 ∷ 3 ∷ 7 ∷ []) × (odd_list (7 ∷ []) None ≡ 7 ∷ []) × (odd_answer 1 None ≡ answer_of (Err NotWellFormed) 0)
left = (refl, refl, refl)
