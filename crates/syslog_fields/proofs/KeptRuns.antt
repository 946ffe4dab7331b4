-- Runs of octets that are kept as they lie: the escapes in them, and a backslash that escapes nothing.
use Rattle.std.proofs.Common.{◌≡◌, ℕ, List, [], ◌∷◌, ◌++◌, take, drop, refl, sym, ap, subst, ◌∙◌, append_assoc, inl}
use Rattle.std.proofs.Common.{inr, ◌≤◌, arith, length, true, false}
use Rattle.std.specs.Prelude.{Bool, Some, None}
use Rattle.std.specs.List.{flat_map}
use Rattle.std.proofs.lemmas.List.{length-append}
use Rattle.memchr.specs.Find.{IsFirstByte, is_byte}
use Rattle.octet_language.specs.Language.{Each, IfFirst}
use Rattle.syslog_fields.specs.Canonical.{escaped, needs_escape}
use Rattle.syslog_fields.specs.Escapes.{BeginsSpecial}
use Rattle.syslog_fields.specs.Forms.{IsOwnForm, HasLongerForm}
use Rattle.syslog_fields.specs.Values.{AreEscapes, IsSpecial, PassesEscapes, Piece}
use Rattle.syslog_fields.proofs.ValueForms.{joined, runs, escape, lone_more, marked_at, all_plain, escaped_join}
use Rattle.syslog_fields.proofs.ValueForms.{escaped_special, free_rest}

-- what was read of a spelling and means itself in the canonical form, and what is left
pub record Kept (raw rest : List ℕ) : Type 0 where
  pub run : List ℕ
  pub parts : raw ≡ run ++ rest
  pub is : (ms : List (List ℕ)) → Each Piece ms raw
      → (ks : List (List ℕ)) × Each Piece ks rest × (escaped (joined ms) ≡ run ++ escaped (joined ks))

pub kept_none : (raw : List ℕ) → Kept raw raw
kept_none raw = record { run = []; parts = refl; is = λ ms h. (ms, h, refl) }

-- an escape is kept with the run before it
pub kept_more : (raw rest marked behind after : List ℕ) (k : ℕ) → IsFirstByte (is_byte 92) rest (Some k)
    → marked ≡ drop k rest → behind ≡ drop 1 marked → BeginsSpecial behind → after ≡ drop 1 behind
    → Kept raw rest → Kept raw after
kept_more raw rest marked behind after k f m b (x, t, e, s) a w =
    let at = marked_at rest marked behind k f m b in
    let special : behind ≡ x ∷ after = e ∙ ap (λ (u : List ℕ). x ∷ u) (sym (a ∙ ap (drop 1) e)) in
    record {
      run = w.run ++ take k rest ++ 92 ∷ x ∷ [];
      parts = w.parts
          ∙ ap (λ (u : List ℕ). w.run ++ u) (at.parts ∙ ap (λ (u : List ℕ). take k rest ++ 92 ∷ u) special)
          ∙ simp append_assoc;
      is = λ ms h.
          let l = w.is ms h in
          let r = runs l.0 rest (take k rest) behind l.1 at.parts at.free in
          let q = escape r.behind x after (subst (λ (u : List ℕ). Each Piece r.behind (92 ∷ u)) special r.each) s in (
            q.behind,
            q.each,
            l.2 ∙ ap (λ (u : List ℕ). w.run ++ u) (ap escaped r.means ∙ escaped_join (take k rest) (joined r.behind)
                ∙ ap (λ (u : List ℕ). u ++ escaped (joined r.behind)) r.same
                ∙ ap (λ (u : List ℕ). take k rest ++ u) (ap escaped q.means ∙ escaped_special x (joined q.behind) s))
                ∙ simp append_assoc,
          );
    }

escapes_kept : (run rest : List ℕ) (ks : List (List ℕ)) → AreEscapes run → Each Piece ks (run ++ rest)
    → (js : List (List ℕ)) × Each Piece js rest × (escaped (joined ks) ≡ run ++ escaped (joined js))
unfolding AreEscapes
escapes_kept [] rest ks h k = (ks, k, refl)
escapes_kept (x ∷ []) rest ks h k = absurd h
escapes_kept (x ∷ y ∷ run) rest ks h k =
    let q = escape ks y (run ++ rest) (subst (λ (u : ℕ). Each Piece ks (u ∷ y ∷ (run ++ rest))) h.0 k) h.1 in
    let deeper = escapes_kept run rest q.behind h.2 q.each in (
      deeper.0,
      deeper.1,
      ap escaped q.means ∙ escaped_special y (joined q.behind) h.1 ∙ ap (λ (u : List ℕ). 92 ∷ y ∷ u) deeper.2
          ∙ ap (λ (u : ℕ). u ∷ y ∷ (run ++ escaped (joined deeper.0))) (sym h.0),
    )

-- so are the escapes that follow
pub kept_escapes : (raw rest after : List ℕ) → Kept raw rest → PassesEscapes rest after → Kept raw after
kept_escapes raw rest after w p = record {
  run = w.run ++ p.run;
  parts = w.parts ∙ ap (λ (u : List ℕ). w.run ++ u) p.parts ∙ sym (append_assoc w.run p.run after);
  is = λ ms h.
      let l = w.is ms h in
      let q = escapes_kept p.run after l.0 p.escapes (subst (Each Piece l.0) p.parts l.1) in (
        q.0,
        q.1,
        l.2 ∙ ap (λ (u : List ℕ). w.run ++ u) q.2 ∙ sym (append_assoc w.run p.run (escaped (joined q.0))),
      );
}

-- up to the rest, which follows a backslash that is no escape, the canonical form is the spelling and one backslash
-- more
pub record EndsLone (raw rest : List ℕ) : Type 0 where
  pub run : List ℕ
  pub parts : raw ≡ run ++ rest
  pub form : (ms : List (List ℕ)) → Each Piece ms raw
      → (ks : List (List ℕ)) × Each Piece ks rest
      × (escaped (flat_map (λ m. m) ms) ≡ run ++ 92 ∷ escaped (flat_map (λ m. m) ks))

-- a backslash that is no escape ends what is kept
pub kept_lone : (raw rest marked behind : List ℕ) (k : ℕ) → IsFirstByte (is_byte 92) rest (Some k)
    → marked ≡ drop k rest → behind ≡ drop 1 marked → IfFirst (λ x. ¬ (IsSpecial x)) behind → Kept raw rest
    → EndsLone raw behind
kept_lone raw rest marked behind k f m b none w =
    let at = marked_at rest marked behind k f m b in
    record {
      run = w.run ++ take k rest ++ 92 ∷ [];
      parts = w.parts ∙ ap (λ (u : List ℕ). w.run ++ u) at.parts ∙ simp append_assoc;
      form = λ ms h.
          let l = w.is ms h in
          let r = runs l.0 rest (take k rest) behind l.1 at.parts at.free in
          let q = lone_more r.behind behind r.each none in (
            q.0,
            q.1,
            l.2 ∙ ap (λ (u : List ℕ). w.run ++ u) (ap escaped r.means ∙ escaped_join (take k rest) (joined r.behind)
                ∙ ap (λ (u : List ℕ). u ++ escaped (joined r.behind)) r.same
                ∙ ap (λ (u : List ℕ). take k rest ++ u)
                (ap escaped q.2 ∙ escaped_special 92 (joined q.0) (inr (inl refl))))
                ∙ simp append_assoc,
          );
    }

-- each octet has one at least in the canonical form
escaped_least : (s : List ℕ) → length s ≤ length (escaped s)
escaped_least [] = omega arith
escaped_least (x ∷ s) = one (needs_escape x) refl (escaped_least s)
  where
    one : (b : Bool) → needs_escape x ≡ b → length s ≤ length (escaped s) → length (x ∷ s) ≤ length (escaped (x ∷ s))
    one true e h = rw e (omega (arith, h))
    one false e h = rw e (omega (arith, h))

piece_least : (m x : List ℕ) → Piece m x → length x ≤ length (escaped m)
piece_least m x (inl (q, k, f, i)) = omega (arith, ap length i, ap length (ap escaped f ∙ escaped_special q [] k))
piece_least m x (inr (inl (c, k, f, i))) = omega (arith, ap length i, ap length f, escaped_least m)
piece_least m x (inr (inr (k, i))) = omega (arith, ap length i, escaped_least m)

-- the spelling is no longer than the canonical form of what it means
pieces_least : (ms : List (List ℕ)) (s : List ℕ) → Each Piece ms s → length s ≤ length (escaped (joined ms))
pieces_least [] s h = omega (arith, ap length h)
pieces_least (m ∷ ms) s (x, y, e, h, k) = omega (
  arith,
  ap length e,
  length-append x y,
  piece_least m x h,
  pieces_least ms y k,
  ap length (escaped_join m (joined ms)),
  length-append (escaped m) (escaped (joined ms)),
)

-- a backslash that is no escape makes the canonical form longer
pub lone_longer : (raw rest : List ℕ) → EndsLone raw rest → HasLongerForm raw
lone_longer raw rest l ms h =
    let k = l.form ms h in
    omega (arith, ap length k.2, ap length l.parts, length-append l.run rest, length-append l.run (92 ∷ escaped (joined k.0)), pieces_least k.0 rest k.1)

-- no backslash is left
pub kept_end : (raw rest : List ℕ) → IsFirstByte (is_byte 92) rest None → Kept raw rest → IsOwnForm raw
kept_end raw rest f w ms h =
    let l = w.is ms h in
    l.2 ∙ ap (λ (u : List ℕ). w.run ++ u) (sym (all_plain l.0 rest l.1 (free_rest rest f))) ∙ sym w.parts
