-- Canonical texts: they are never empty, and each field has one.
use Rattle.std.proofs.Common.{◌≡◌, ℕ, ◌<◌, List, length, sym, ap, ◌∙◌, arith}
use Rattle.std.specs.Prelude.{ℤ, ◌∷◌, [], Option, Some, None}
use Rattle.std.proofs.lemmas.List.{length-append}
use Rattle.octet_language.specs.Language.{Only}
use Rattle.octet_language.proofs.Sequence.{once, only_once}
use Rattle.syslog_value.specs.Parts.{Parts}
use Rattle.syslog_value.proofs.CivilTimes.{civil-injective}
use Rattle.syslog_fields.specs.Canonical.{Canonical, HeaderForm, SpacedWord, TimeForm, civil_text, word_form}

pub canonical_some : (r : Parts ℤ) (b : List ℕ) → Canonical r b → 0 < length b
unfolding HeaderForm
canonical_some r b (x, y, e, (u, v, f, g, h), k) =
    omega (arith, ap length e, length-append x y, ap length f, length-append u v, ap length g)

pub time_once : (i : Option ℤ) (b c : List ℕ) → TimeForm i b → TimeForm i c → b ≡ c
time_once None b c h k = h ∙ sym k
time_once (Some i) b c (u, uc, ui, ub) (v, vc, vi, vb) =
    ub ∙ ap civil_text (civil-injective u v uc vc (ui ∙ sym vi)) ∙ sym vb

pub word_once : (w : Option (List ℕ)) (s t : List ℕ) → SpacedWord w s → SpacedWord w t → s ≡ t
word_once w s t h k = once (Only (word_form w)) (Only (32 ∷ [])) s t (only_once (word_form w)) (only_once (32 ∷ [])) h k
