-- Texts that are lent as their own octets.
use Rattle.std.proofs.Common.{ℕ, List, refl, subst, sym}
use Rattle.octet_language.specs.Language.{Language, ◌⋅◌, AnyOf}
use Rattle.octet_language.specs.Reading.{Fails}
use Rattle.octet_language.proofs.Chain.{Fails-same}
use Rattle.syslog_fields.specs.Spans.{Text}

-- a text and what follows it fail alike where the text is lent
pub Fails-text : (L Z : Language) (b : List ℕ) (remaining : ℕ) → Fails (L ⋅ Z) b remaining
    → Fails (AnyOf (λ t. Text L t ⋅ Z)) b remaining
Fails-text L Z b remaining f =
    Fails-same (L ⋅ Z) (AnyOf (λ t. Text L t ⋅ Z)) b remaining
    (λ s (x, y, e, h, k). (x, (x, y, e, (h, refl), k)))
    (λ s (t, (x, y, e, (h, g), k)). (x, y, e, subst L (sym g) h, k))
    f
