-- Frames handled one after the other.
use Rattle.std.proofs.Common.{◌≡◌, ℕ, ◌+◌, List, [], ◌∷◌, ◌++◌, length, true, false, Bool, refl, sym, ap, ap₂, subst}
use Rattle.std.proofs.Common.{◌∙◌, append_assoc, arith}
use Rattle.std.specs.Prelude.{◌||◌}
use Rattle.std.proofs.lemmas.List.{append-nil}
use Rattle.driver.specs.Effects.{Done, nothing, then_done}
use Rattle.frame_engine.specs.Handling.{HandledFrom, Handling, HasOneOutputEach}
use Rattle.std.proofs.Math.Bool.{or-false}

or_assoc : (a b c : Bool) → ((a || b) || c) ≡ (a || (b || c))
or_assoc true b c = refl
or_assoc false b c = refl

abbrev pub build : Bool → List ℕ → List ℕ → Done
build r o n = record { refused = r; output = o; diagnostics = n }

pub same_done : (r s : Bool) (o p n m : List ℕ) → r ≡ s → o ≡ p → n ≡ m → build r o n ≡ build s p m
same_done r s o p n m a b c = rw (a, b, c) refl

pub then_assoc : (a b c : Done) → then_done (then_done a b) c ≡ then_done a (then_done b c)
then_assoc a b c = same_done _ _ _ _ _ _ (or_assoc a.refused b.refused c.refused)
    (append_assoc a.output b.output c.output) (append_assoc a.diagnostics b.diagnostics c.diagnostics)

pub then_nothing : (a : Done) → then_done a nothing ≡ a
then_nothing a = same_done _ _ _ _ _ _ (or-false a.refused) (append-nil a.output) (append-nil a.diagnostics)

-- one more frame
pub handled_more : (D : Handling) (n m : ℕ) (fs : List (List ℕ)) (f : List ℕ) (a b : Done) → m ≡ n + length fs
    → HandledFrom D n fs a → D m f b → HandledFrom D n (fs ++ f ∷ []) (then_done a b)
handled_more D n m [] f a b e h k =
    let same : m ≡ n = omega arith in
    (b, nothing, subst (λ (i : ℕ). D i f b) same k, refl, ap (λ (d : Done). then_done d b) h ∙ sym (then_nothing b))
handled_more D n m (g ∷ fs) f a b e (c, d, hc, hd, ea) k = (
  c,
  then_done d b,
  hc,
  handled_more D (n + 1) m fs f d b (omega arith) hd k,
  ap (λ (x : Done). then_done x b) ea
      ∙ then_assoc c d b,
)

-- frames have one output
pub handled_output : (D : Handling) → HasOneOutputEach D → (n : ℕ) (fs : List (List ℕ)) (a b : Done) → HandledFrom D n fs a
    → HandledFrom D n fs b → a.output ≡ b.output
handled_output D one n [] a b h k = ap (λ (d : Done). d.output) (h ∙ sym k)
handled_output D one n (f ∷ fs) a b (c, d, hc, hd, ea) (c', d', hc', hd', eb) =
    ap (λ (x : Done). x.output) ea ∙ ap₂ (λ (x y : List ℕ). x ++ y) (one n f c c' hc hc')
    (handled_output D one (n + 1) fs d d' hd hd') ∙ sym (ap (λ (x : Done). x.output) eb)

-- the output of frames begins that of more of them
pub handled_prefix : (D : Handling) → HasOneOutputEach D → (n : ℕ) (fs gs : List (List ℕ)) (a b : Done)
    → HandledFrom D n fs a → HandledFrom D n (fs ++ gs) b → (c : List ℕ) × (b.output ≡ a.output ++ c)
handled_prefix D one n [] gs a b h k = (b.output, ap (λ (d : Done). d.output ++ b.output) (sym h))
handled_prefix D one n (f ∷ fs) gs a b (c, d, hc, hd, ea) (c', d', hc', hd', eb) =
    let r = handled_prefix D one (n + 1) fs gs d d' hd hd' in (
      r.0,
      ap (λ (x : Done). x.output) eb ∙ ap₂ (λ (x y : List ℕ). x ++ y) (one n f c' c hc' hc) r.1
          ∙ sym (append_assoc c.output d.output r.0) ∙ ap (λ (x : Done). x.output ++ r.0) (sym ea),
    )

-- octets were appended to the output, and nothing else was done
pub adds_output : (old new : Done) (text : List ℕ) → new.refused ≡ old.refused → new.output ≡ old.output ++ text
    → new.diagnostics ≡ old.diagnostics → new ≡ then_done old (record { refused = false; output = text; diagnostics = [] })
adds_output old new text r o n = same_done new.refused (old.refused || false) new.output (old.output ++ text) new.diagnostics
    (old.diagnostics ++ []) (r ∙ sym (or-false old.refused)) o (n ∙ sym (append-nil old.diagnostics))

-- octets were appended to the diagnostics, and nothing else was done
pub adds_note : (old new : Done) (text : List ℕ) → new.refused ≡ old.refused → new.output ≡ old.output
    → new.diagnostics ≡ old.diagnostics ++ text
    → new ≡ then_done old (record { refused = false; output = []; diagnostics = text })
adds_note old new text r o n = same_done new.refused (old.refused || false) new.output (old.output ++ []) new.diagnostics
    (old.diagnostics ++ text) (r ∙ sym (or-false old.refused)) (o ∙ sym (append-nil old.output)) n
