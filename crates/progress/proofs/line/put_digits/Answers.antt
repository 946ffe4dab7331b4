use Rattle.std.proofs.Common.{◌≡◌, ◌++◌, ◌∷◌, [], ◌∙◌, List, ℕ, length, append_assoc}
use Rattle.progress.specs.Line.{comma_before, with_commas}
use Rattle.progress.proofs.line.put_digits.Goals as goal

one_more : (old text before put out : List ℕ) (digit : ℕ) (following rest digits : List ℕ) → before ≡ old ++ text
    → put ≡ before ++ digit ∷ [] → out ≡ put ++ comma_before (length following) → rest ≡ digit ∷ following
    → text ++ with_commas rest ≡ with_commas digits
    → (more : List ℕ) × (out ≡ old ++ more) × (more ++ with_commas following ≡ with_commas digits)
one_more old text before put out digit following rest digits a b c e left = (
  text ++ (digit ∷ comma_before (length following)),
  rw (c, b, a) (simp append_assoc),
  append_assoc text (digit ∷ comma_before (length following)) (with_commas following) ∙ rw e at left,
)

pub loop-digit-preserved : goal.loop-digit-preserved
loop-digit-preserved c =
    let (text, is, left) = c.loop-digit.invariant in
    one_more c.args.out.now.items text c.loop-digit.out.items c.put.new.out.items c.put_comma.new.out.items c.in-Some.digit.now
    c.in-Some.following.now c.loop-digit.rest.now c.args.digits.now is c.in_ok-put.ensures.ok c.in_ok-put_comma.ensures.ok
    c.in-Some.ensures.cases.0 left
