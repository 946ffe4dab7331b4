-- The proofs of searches that have ended.
use Rattle.std.specs.Prelude.{ℕ, List, [], ◌∷◌, ◌++◌, codes}
use Rattle.archive_tree.specs.declared.audit_path.AuditPath.{AuditPath}
use Rattle.archive_proof.specs.Texts.{beside_text, path_text}
use Rattle.archive_proof.specs.declared.search.Place.{Place}
use Rattle.archive_proof.specs.declared.search.Place.TheVariants.{Found}
use Rattle.archive_proof.specs.declared.search.Search.{Search}

-- the word and the neighbour of these octets; or nothing, if there are none
abbrev pub made_side : List ℕ → List ℕ → AuditPath → List ℕ
made_side word [] p = []
made_side word (x ∷ xs) p = word ++ beside_text (x ∷ xs) p

-- the text of the proof that a search has led to
abbrev pub made_text : Place → Search → AuditPath → AuditPath → List ℕ
made_text Found s p q = codes "present " ++ path_text p ++ 10 ∷ []
made_text place s p q =
    codes "absent\n" ++ made_side (codes "before ") s.before.items p ++ made_side (codes "behind ") s.behind.items q
    ++ 10 ∷ []

-- the texts of the proofs of searches, which have two paths each
abbrev pub made_texts : List Search → List AuditPath → List ℕ
made_texts (s ∷ ss) (p ∷ q ∷ ps) = made_text s.place s p q ++ made_texts ss ps
made_texts ss ps = []
