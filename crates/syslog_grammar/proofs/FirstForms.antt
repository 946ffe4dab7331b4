-- The parts that come first, written from their octets.
use Rattle.std.proofs.Common.{◌≡◌, ◌≢◌, ℕ, zero, suc, ◌-◌, ◌<◌, Bool, true, false, List, [], ◌∷◌, ◌++◌}
use Rattle.std.proofs.Common.{length, take, drop, get_or, refl, sym, ap, subst, ◌∙◌, append_assoc, arith, inl, inr}
use Rattle.std.proofs.Common.{Bor}
use Rattle.std.specs.Prelude.{IsTrue, MatchResult, Some, None, Result, Ok, Err}
use Rattle.std.specs.List.{AllByRecursion, flat_map}
use Rattle.std.proofs.lemmas.Bool.{cases_eq, false≢true}
use Rattle.std.proofs.lemmas.Bool.Decides.{nat_tests}
use Rattle.std.proofs.lemmas.List.{append-nil, drop_at, length-append, take-append-drop}
use Rattle.memchr.specs.Find.{IsFirstByte, is_byte2}
use Rattle.octet_language.specs.Language.{Each, IfFirst, Only}
use Rattle.octet_language.proofs.Lists.{heads, parted, tails}
use Rattle.syslog_value.specs.Parts.{IsNameOctet, ParamParts}
use Rattle.syslog_fields.specs.Appending.{Adds, Anything}
use Rattle.syslog_fields.specs.Canonical.{escaped, param_form}
use Rattle.syslog_fields.specs.Escapes.{BeginsSpecial}
use Rattle.syslog_fields.specs.FirstElements.{IsIdLength, IsNameLength, IsPaired, takes_next}
use Rattle.syslog_fields.specs.Grammar.{Param}
use Rattle.syslog_fields.specs.Values.{AreEscapes, IsSpecial, PassesEscapes, Piece}
use Rattle.syslog_fields.proofs.Appends.{adds_some}
use Rattle.syslog_fields.proofs.Characters.{character_some}
use Rattle.syslog_fields.proofs.ReadForms.{form_text}
use Rattle.syslog_fields.proofs.FirstElements.{id_ends, is_test, paired_takes, paired_value}
use Rattle.syslog_fields.proofs.ParamTexts.{param_prefix}
use Rattle.syslog_fields.proofs.ValueForms.{all_plain, escape, escaped_join, escaped_special, joined, lone_more}
use Rattle.syslog_fields.proofs.ValueForms.{no_plain, runs}
use Rattle.syslog_reading.proofs.Repeating.{prefix_is}
use Rattle.syslog_grammar.specs.Reescaped.{FirstElement, FirstParam, FirstParams, FirstValue, KeptTo, RunForm}
use Rattle.syslog_grammar.proofs.DataForms.{form_raw}

-- ---- the marks of a value

-- neither a quotation mark nor a backslash
abbrev NoMarks : List ℕ → Type 0
NoMarks s = AllByRecursion (λ x. (x ≢ 34) × (x ≢ 92)) s

no_backslash : (s : List ℕ) → NoMarks s → AllByRecursion (λ x. x ≢ 92) s
no_backslash [] h = tt
no_backslash (x ∷ s) h = (h.0.1, no_backslash s h.1)

takes_none : (s : List ℕ) → NoMarks s → takes_next false s ≡ false
unfolding takes_next
takes_none [] h = refl
takes_none (x ∷ s) h = ap (λ (b : Bool). takes_next b s) (is_test x h.0.1) ∙ takes_none s h.1

marks_none : (k : ℕ) (s : List ℕ) → ((i : ℕ) → i < k → ¬ (is_byte2 34 92 (get_or s i 0) ≡ true)) → NoMarks (take k s)
marks_none zero s none = tt
marks_none (suc k) [] none = tt
marks_none (suc k) (x ∷ s) none = (
  (λ e. none 0 (omega arith) (rw e refl), λ e. none 0 (omega arith) (rw e refl)),
  marks_none k s (λ i less. none (suc i) (omega (arith, less))),
)

no_quote : (s w : List ℕ) (x : ℕ) → NoMarks (s ++ x ∷ w) → x ≢ 34
no_quote [] w x h = h.0.0
no_quote (y ∷ s) w x h = no_quote s w x h.1

left_of : (p s t : List ℕ) → p ++ s ≡ p ++ t → s ≡ t
left_of [] s t e = e
left_of (x ∷ p) s t e = left_of p s t (tails x x (p ++ s) (p ++ t) e)

-- the quotation mark that comes first without a backslash before it ends the value
value_ends : (ms : List (List ℕ)) (raw after run behind : List ℕ) → Each Piece ms raw
    → raw ++ 34 ∷ after ≡ run ++ 34 ∷ behind → NoMarks run → (escaped (joined ms) ≡ run) × (behind ≡ after)
value_ends ms raw after run behind h e none = elim (parted raw (34 ∷ after) run 34 behind e) [
  | inl (z, i) ↦
      absurd (false≢true (sym (takes_none run none)
      ∙ paired_takes 34 run z (λ g. omega (arith, g)) (subst (IsPaired 34) i (paired_value ms raw h))))
  | inr ([], i, l) ↦
      let same : run ≡ raw = i ∙ append-nil raw in (
        sym (all_plain ms raw h (no_backslash raw (subst NoMarks same none))) ∙ sym same,
        sym (tails 34 34 after behind l),
      )
  | inr (x ∷ w, i, l) ↦ absurd (no_quote raw w x (subst NoMarks i none) (sym (heads 34 x after (w ++ 34 ∷ behind) l)))
]

-- a backslash that comes first is of the value
value_goes : (ms : List (List ℕ)) (raw after run behind : List ℕ) → Each Piece ms raw
    → raw ++ 34 ∷ after ≡ run ++ 92 ∷ behind → NoMarks run
    → (z : List ℕ) × (raw ≡ run ++ 92 ∷ z) × (behind ≡ z ++ 34 ∷ after)
value_goes ms raw after run behind h e none = elim (parted raw (34 ∷ after) run 92 behind e) [
  | inl (z, i) ↦
      let both : run ++ 92 ∷ (z ++ 34 ∷ after) ≡ run ++ 92 ∷ behind =
      sym (append_assoc run (92 ∷ z) (34 ∷ after)) ∙ ap (λ (u : List ℕ). u ++ 34 ∷ after) (sym i) ∙ e in
      (z, i, sym (tails 92 92 (z ++ 34 ∷ after) behind (left_of run (92 ∷ (z ++ 34 ∷ after)) (92 ∷ behind) both)))
  | inr ([], i, l) ↦ absurd (omega (arith, heads 34 92 after behind l))
  | inr (x ∷ w, i, l) ↦ absurd (no_quote raw w x (subst NoMarks i none) (sym (heads 34 x after (w ++ 92 ∷ behind) l)))
]

-- no pieces are a backslash alone
no_end : (qs : List (List ℕ)) → Each Piece qs (92 ∷ []) → ⊥
no_end [] h = absurd cc
no_end (m ∷ qs) (x, y, e, inl (q, k, f, i), l) = omega (arith, ap length e, length-append x y, ap length i)
no_end (m ∷ qs) (x, y, e, inr (inl ([], k, f, i)), l) = character_some k.0
no_end (m ∷ qs) (x, y, e, inr (inl (a ∷ c, k, f, i)), l) = omega (arith, ap length e, length-append x y, ap length i)
no_end (m ∷ qs) (x, y, e, inr (inr (k, f)), l) =
    no_plain m y [] 92 k (inr (inl refl)) (e ∙ ap (λ (u : List ℕ). u ++ y) f)

-- what is kept of a value, and what is left of it
pub record KeptValue (octets rest : List ℕ) : Type 0 where
  pub run : List ℕ
  pub parts : octets ≡ run ++ rest
  pub is : (ms : List (List ℕ)) (raw after : List ℕ) → Each Piece ms raw → octets ≡ raw ++ 34 ∷ after
      → (ks : List (List ℕ)) × (left : List ℕ) × Each Piece ks left × (rest ≡ left ++ 34 ∷ after)
      × (escaped (joined ms) ≡ run ++ escaped (joined ks))

pub kept_none : (octets : List ℕ) → KeptValue octets octets
kept_none octets = record { run = []; parts = refl; is = λ ms raw after h e. (ms, raw, h, e, refl) }

-- what comes before a mark that was found, and after it
record Found (x : ℕ) (rest run behind : List ℕ) : Type 0 where
  parts : rest ≡ run ++ x ∷ behind
  none : NoMarks run

at_offset : (k : ℕ) (s : List ℕ) → k < length s → drop k s ≡ get_or s k 0 ∷ drop 1 (drop k s)
at_offset k [] h = absurd (omega arith)
at_offset zero (x ∷ s) h = refl
at_offset (suc k) (x ∷ s) h = at_offset k s (omega (arith, h))

found : (x k : ℕ) (rest marked behind : List ℕ) → IsFirstByte (is_byte2 34 92) rest (Some k) → get_or rest k 0 ≡ x
    → marked ≡ drop k rest → behind ≡ drop 1 marked → Found x rest (take k rest) behind
found x k rest marked behind f e m b = record {
  parts = sym (take-append-drop k rest) ∙ ap (λ (u : List ℕ). take k rest ++ u)
      (at_offset k rest f.0.high ∙ ap (λ (n : ℕ). n ∷ drop 1 (drop k rest)) e
      ∙ ap (λ (u : List ℕ). x ∷ u) (ap (drop 1) (sym m) ∙ sym b));
  none = marks_none k rest (λ i less. f.0.before i (omega arith) less);
}

quote_found : (k : ℕ) (rest marked behind t : List ℕ) → IsFirstByte (is_byte2 34 92) rest (Some k)
    → marked ≡ drop k rest → behind ≡ drop 1 marked → marked ≡ 34 ∷ t → Found 34 rest (take k rest) behind
quote_found k rest marked behind t f m b e =
    found 34 k rest marked behind f
    (heads (get_or rest k 0) 34 (drop 1 (drop k rest)) t (sym (at_offset k rest f.0.high) ∙ sym m ∙ e)) m b

backslash_found : (k : ℕ) (rest marked behind : List ℕ) → IsFirstByte (is_byte2 34 92) rest (Some k)
    → marked ≡ drop k rest → behind ≡ drop 1 marked → IfFirst (λ x. x ≢ 34) marked
    → Found 92 rest (take k rest) behind
backslash_found k rest marked behind f m b other =
    found 92 k rest marked behind f (either (get_or rest k 0) f.1
    (subst (IfFirst (λ x. x ≢ 34)) (m ∙ at_offset k rest f.0.high) other)) m b
  where
    either : (x : ℕ) → is_byte2 34 92 x ≡ true → x ≢ 34 → x ≡ 92
    either x t ne = elim (cases_eq x 92) [ inl e ↦ e | inr e ↦ absurd (grind (arith, nat_tests, t, ne, e)) ]

-- the quotation mark ends the value
pub kept_ends : (octets rest marked behind t : List ℕ) (k : ℕ) → IsFirstByte (is_byte2 34 92) rest (Some k)
    → marked ≡ drop k rest → behind ≡ drop 1 marked → marked ≡ 34 ∷ t → KeptValue octets rest
    → KeptTo octets behind true
kept_ends octets rest marked behind t k f m b e w =
    let at = quote_found k rest marked behind t f m b e in
    record {
      run = w.run ++ take k rest ++ 34 ∷ [];
      parts = w.parts ∙ ap (λ (u : List ℕ). w.run ++ u) at.parts ∙ simp append_assoc;
      form = λ ms raw after h g.
          let l = w.is ms raw after h g in
          let q = value_ends l.0 l.1 after (take k rest) behind l.2 (sym l.3 ∙ at.parts) at.none in (
            sym (ap (λ (u : List ℕ). u ++ 34 ∷ []) (l.4 ∙ ap (λ (u : List ℕ). w.run ++ u) q.0) ∙ simp append_assoc),
            q.1,
          );
    }

-- an escape is kept with the run before it
pub kept_more : (octets rest marked behind next : List ℕ) (k : ℕ) → IsFirstByte (is_byte2 34 92) rest (Some k)
    → marked ≡ drop k rest → behind ≡ drop 1 marked → IfFirst (λ x. x ≢ 34) marked → BeginsSpecial behind
    → next ≡ drop 1 behind → KeptValue octets rest → KeptValue octets next
kept_more octets rest marked behind next k f m b other (x, t, e, s) n w =
    let at = backslash_found k rest marked behind f m b other in
    let special : behind ≡ x ∷ next = e ∙ ap (λ (u : List ℕ). x ∷ u) (sym (n ∙ ap (drop 1) e)) in
    record {
      run = w.run ++ take k rest ++ 92 ∷ x ∷ [];
      parts = w.parts
          ∙ ap (λ (u : List ℕ). w.run ++ u) (at.parts ∙ ap (λ (u : List ℕ). take k rest ++ 92 ∷ u) special)
          ∙ simp append_assoc;
      is = λ ms raw after h g.
          let l = w.is ms raw after h g in
          let v = value_goes l.0 l.1 after (take k rest) behind l.2 (sym l.3 ∙ at.parts) at.none in
          let r = runs l.0 l.1 (take k rest) v.0 l.2 v.1 (no_backslash (take k rest) at.none) in
          let q = taken r.behind v.0 after r.each (sym special ∙ v.2) in (
            q.0,
            q.1,
            q.2,
            q.3,
            l.4 ∙ ap (λ (u : List ℕ). w.run ++ u) (ap escaped r.means ∙ escaped_join (take k rest) (joined r.behind)
                ∙ ap (λ (u : List ℕ). u ++ escaped (joined r.behind)) r.same
                ∙ ap (λ (u : List ℕ). take k rest ++ u) (ap escaped q.4 ∙ escaped_special x (joined q.0) s))
                ∙ simp append_assoc,
          );
    }
  where
    taken : (qs : List (List ℕ)) (z after : List ℕ) → Each Piece qs (92 ∷ z) → x ∷ next ≡ z ++ 34 ∷ after
        → (ks : List (List ℕ)) × (left : List ℕ) × Each Piece ks left × (next ≡ left ++ 34 ∷ after)
        × (joined qs ≡ x ∷ joined ks)
    taken qs [] after h g = absurd (no_end qs h)
    taken qs (y ∷ z) after h g =
        let same : x ≡ y = heads x y next (z ++ 34 ∷ after) g in
        let q = escape qs x z (subst (λ (u : ℕ). Each Piece qs (92 ∷ u ∷ z)) (sym same) h) s in
        (q.behind, z, q.each, tails x y next (z ++ 34 ∷ after) g, q.means)

escapes_kept : (run behind left after : List ℕ) (ks : List (List ℕ)) → AreEscapes run → Each Piece ks left
    → run ++ behind ≡ left ++ 34 ∷ after
    → (js : List (List ℕ)) × (kept : List ℕ) × Each Piece js kept × (behind ≡ kept ++ 34 ∷ after)
    × (escaped (joined ks) ≡ run ++ escaped (joined js))
unfolding AreEscapes
escapes_kept [] behind left after ks h k e = (ks, left, k, e, refl)
escapes_kept (x ∷ []) behind left after ks h k e = absurd h
escapes_kept (x ∷ y ∷ run) behind [] after ks h k e =
    absurd (omega (arith, h.0, heads x 34 (y ∷ (run ++ behind)) after e))
escapes_kept (x ∷ y ∷ run) behind (a ∷ []) after ks h k e =
    let first : a ≡ 92 = sym (heads x a (y ∷ (run ++ behind)) (34 ∷ after) e) ∙ h.0 in
    absurd (no_end ks (subst (λ (u : ℕ). Each Piece ks (u ∷ [])) first k))
escapes_kept (x ∷ y ∷ run) behind (a ∷ b ∷ left) after ks h k e =
    let first : a ≡ 92 = sym (heads x a (y ∷ (run ++ behind)) (b ∷ (left ++ 34 ∷ after)) e) ∙ h.0 in
    let next = tails x a (y ∷ (run ++ behind)) (b ∷ (left ++ 34 ∷ after)) e in
    let second : b ≡ y = sym (heads y b (run ++ behind) (left ++ 34 ∷ after) next) in
    let q = escape ks y left
    (subst (λ (u : ℕ). Each Piece ks (92 ∷ u ∷ left)) second (subst (λ (u : ℕ). Each Piece ks (u ∷ b ∷ left)) first k))
    h.1 in
    let deeper = escapes_kept run behind left after q.behind h.2 q.each
    (tails y b (run ++ behind) (left ++ 34 ∷ after) next) in (
      deeper.0,
      deeper.1,
      deeper.2,
      deeper.3,
      ap escaped q.means ∙ escaped_special y (joined q.behind) h.1 ∙ ap (λ (u : List ℕ). 92 ∷ y ∷ u) deeper.4
          ∙ ap (λ (u : ℕ). u ∷ y ∷ (run ++ escaped (joined deeper.0))) (sym h.0),
    )

-- so are the escapes that follow
pub kept_escapes : (octets rest behind : List ℕ) → KeptValue octets rest → PassesEscapes rest behind
    → KeptValue octets behind
kept_escapes octets rest behind w p = record {
  run = w.run ++ p.run;
  parts = w.parts ∙ ap (λ (u : List ℕ). w.run ++ u) p.parts ∙ sym (append_assoc w.run p.run behind);
  is = λ ms raw after h e.
      let l = w.is ms raw after h e in
      let q = escapes_kept p.run behind l.1 after l.0 p.escapes l.2 (sym p.parts ∙ l.3) in (
        q.0,
        q.1,
        q.2,
        q.3,
        l.4 ∙ ap (λ (u : List ℕ). w.run ++ u) q.4 ∙ sym (append_assoc w.run p.run (escaped (joined q.0))),
      );
}

-- a backslash that is no escape ends what is kept
pub kept_lone : (octets rest marked behind : List ℕ) (k : ℕ) → IsFirstByte (is_byte2 34 92) rest (Some k)
    → marked ≡ drop k rest → behind ≡ drop 1 marked → IfFirst (λ x. x ≢ 34) marked
    → IfFirst (λ x. ¬ (IsSpecial x)) behind → KeptValue octets rest → KeptTo octets behind false
kept_lone octets rest marked behind k f m b other none w =
    let at = backslash_found k rest marked behind f m b other in
    record {
      run = w.run ++ take k rest ++ 92 ∷ [];
      parts = w.parts ∙ ap (λ (u : List ℕ). w.run ++ u) at.parts ∙ simp append_assoc;
      form = λ ms raw after h g.
          let l = w.is ms raw after h g in
          let v = value_goes l.0 l.1 after (take k rest) behind l.2 (sym l.3 ∙ at.parts) at.none in
          let r = runs l.0 l.1 (take k rest) v.0 l.2 v.1 (no_backslash (take k rest) at.none) in
          let q = lone_more r.behind v.0 r.each
          (first v.0 after (subst (IfFirst (λ x. ¬ (IsSpecial x))) v.2 none)) in (
            q.0,
            v.0,
            q.1,
            v.2,
            l.4 ∙ ap (λ (u : List ℕ). w.run ++ u) (ap escaped r.means ∙ escaped_join (take k rest) (joined r.behind)
                ∙ ap (λ (u : List ℕ). u ++ escaped (joined r.behind)) r.same
                ∙ ap (λ (u : List ℕ). take k rest ++ u)
                (ap escaped q.2 ∙ escaped_special 92 (joined q.0) (inr (inl refl))))
                ∙ simp append_assoc,
          );
    }
  where
    first : (z after : List ℕ) → IfFirst (λ x. ¬ (IsSpecial x)) (z ++ 34 ∷ after) → IfFirst (λ x. ¬ (IsSpecial x)) z
    first [] after h = tt
    first (y ∷ z) after h = h

-- no value comes first where no mark is left
pub kept_missing : (octets rest : List ℕ) → IsFirstByte (is_byte2 34 92) rest None → KeptValue octets rest
    → KeptTo octets octets true
kept_missing octets rest f w = record {
  run = [];
  parts = refl;
  form = λ ms raw after h g.
      let l = w.is ms raw after h g in
      let none : IsFirstByte (is_byte2 34 92) (l.1 ++ 34 ∷ after) None =
      subst (λ (u : List ℕ). IsFirstByte (is_byte2 34 92) u None) l.3 f in
      absurd (none (length l.1) (omega arith) (omega (arith, length-append l.1 (34 ∷ after))) (quote_at l.1 after));
}
  where
    quote_at : (s after : List ℕ) → is_byte2 34 92 (get_or (s ++ 34 ∷ after) (length s) 0) ≡ true
    quote_at [] after = refl
    quote_at (x ∷ s) after = quote_at s after

-- ---- the value

-- the form that was written is whole, or is that of what is left with what is written
abbrev WrittenForm : Bool → List ℕ → List ℕ → List (List ℕ) → List ℕ → Type 0
WrittenForm true done rest ms after = (done ≡ escaped (joined ms) ++ 34 ∷ []) × (rest ≡ after)
WrittenForm false done rest ms after = (ks : List (List ℕ)) × (left : List ℕ) × Each Piece ks left
    × (rest ≡ left ++ 34 ∷ after) × (escaped (joined ms) ≡ done ++ escaped (joined ks))

pub record ValueWritten (octets rest : List ℕ) (is_last : Bool) (old out : List ℕ) : Type 0 where
  pub done : List ℕ
  pub parts : out ≡ old ++ done
  pub is : (ms : List (List ℕ)) (raw after : List ℕ) → Each Piece ms raw → octets ≡ raw ++ 34 ∷ after
      → WrittenForm is_last done rest ms after

pub value_none : (octets old : List ℕ) → ValueWritten octets octets false old old
value_none octets old = record {
  done = [];
  parts = sym (append-nil old);
  is = λ ms raw after h e. (ms, raw, h, e, refl);
}

pub value_begun : (octets rest : List ℕ) (is_last : Bool) (old out : List ℕ) → ValueWritten octets rest is_last old out
    → Adds Anything old out
value_begun octets rest is_last old out w = (w.done, tt, w.parts)

pub value_more : (octets rest behind run old out mid : List ℕ) (ends : Bool) → ValueWritten octets rest false old out
    → KeptTo rest behind ends → run ≡ take (length rest - length behind) rest → Adds (RunForm ends run) out mid
    → ValueWritten octets behind ends old mid
value_more octets rest behind run old out mid true w kept t (x, xs, xe) =
    let run_is : run ≡ kept.run = t ∙ prefix_is rest kept.run behind kept.parts in
    record {
      done = w.done ++ run;
      parts = xe ∙ ap (λ (u : List ℕ). u ++ x) w.parts ∙ append_assoc old w.done x
          ∙ ap (λ (u : List ℕ). old ++ (w.done ++ u)) xs;
      is = λ ms raw after h e.
          let l = w.is ms raw after h e in
          let q = kept.form l.0 l.1 after l.2 l.3 in (
            ap (λ (u : List ℕ). w.done ++ u) (run_is ∙ q.0)
                ∙ sym (append_assoc w.done (escaped (joined l.0)) (34 ∷ []))
                ∙ ap (λ (u : List ℕ). u ++ 34 ∷ []) (sym l.4),
            q.1,
          );
    }
value_more octets rest behind run old out mid false w kept t (x, xs, xe) =
    let run_is : run ≡ kept.run = t ∙ prefix_is rest kept.run behind kept.parts in
    record {
      done = w.done ++ (run ++ 92 ∷ []);
      parts = xe ∙ ap (λ (u : List ℕ). u ++ x) w.parts ∙ append_assoc old w.done x
          ∙ ap (λ (u : List ℕ). old ++ (w.done ++ u)) xs;
      is = λ ms raw after h e.
          let l = w.is ms raw after h e in
          let q = kept.form l.0 l.1 after l.2 l.3 in (
            q.0,
            q.1,
            q.2,
            q.3,
            l.4 ∙ ap (λ (u : List ℕ). w.done ++ u) (q.4 ∙ ap (λ (u : List ℕ). u ++ 92 ∷ escaped (joined q.0)) (sym run_is))
                ∙ simp append_assoc,
          );
    }

pub value_end : (octets rest old out : List ℕ) → ValueWritten octets rest true old out
    → Adds (FirstValue octets rest) old out
value_end octets rest old out w = (
  w.done,
  λ text after (t, e, (x, y, f, (ms, means, h), g)).
      let whole : octets ≡ x ++ 34 ∷ after =
      e ∙ rw (f, g) (append_assoc x (34 ∷ []) after) in
      let l = w.is ms x after h whole in
      (l.0 ∙ ap (λ (u : List ℕ). escaped u ++ 34 ∷ []) (sym means), l.1),
  w.parts,
)

-- octets of a value that is not yet whole
abbrev pub octets_left : Bool → List ℕ → ℕ
octets_left true rest = 0
octets_left false rest = suc (length rest)

pub fewer_left : (ends : Bool) (rest behind : List ℕ) → ((IsTrue ends → ⊥) → length behind < length rest)
    → octets_left ends behind < suc (length rest)
fewer_left true rest behind h = omega arith
fewer_left false rest behind h = omega (arith, h (λ e. absurd cc))

-- ---- parameters

-- up to the value of a parameter
pub param_begun : (octets behind marked value named rest old mid new : List ℕ) (n : ℕ) → behind ≡ drop 1 octets
    → IsNameLength behind n → marked ≡ drop n behind → value ≡ drop 1 (drop 1 marked)
    → named ≡ take (length octets - length value) octets → Adds (Only named) old mid
    → Adds (FirstValue value rest) mid new → Adds (FirstParam octets rest) old new
param_begun octets behind marked value named rest old mid new n b len m v t (x, xs, xe) (y, ys, ye) = (
  x ++ y,
  λ p after (text, parts, (a, d, e, h, (z, w, g, (valid, k), (u, s, f, l, (q, r, i, spells, o))))).
      let inside : octets ≡ (32 ∷ z ++ 61 ∷ 34 ∷ []) ++ (q ++ 34 ∷ after) =
      parts ∙ rw (e, g, f, i, h, l, o) (ap (λ (c : List ℕ). 32 ∷ c)
      (append_assoc z (61 ∷ 34 ∷ (q ++ 34 ∷ [])) after ∙ ap (λ (c : List ℕ). z ++ 61 ∷ 34 ∷ c) (append_assoc q (34 ∷ []) after)
      ∙ sym (append_assoc z (61 ∷ 34 ∷ []) (q ++ 34 ∷ after)))) in
      let behind_is : behind ≡ z ++ 61 ∷ 34 ∷ (q ++ 34 ∷ after) =
      b ∙ ap (drop 1) inside ∙ append_assoc z (61 ∷ 34 ∷ []) (q ++ 34 ∷ after) in
      let n_is : n ≡ length z =
      len z (34 ∷ (q ++ 34 ∷ after)) (subst (AllByRecursion IsNameOctet) (sym k) valid.octets) behind_is in
      let marked_is : marked ≡ 61 ∷ 34 ∷ (q ++ 34 ∷ after) =
      m ∙ rw (n_is, behind_is) (drop_at z (61 ∷ 34 ∷ (q ++ 34 ∷ after)) (length z) refl) in
      let value_is : value ≡ q ++ 34 ∷ after = v ∙ ap (λ (c : List ℕ). drop 1 (drop 1 c)) marked_is in
      let named_is : named ≡ 32 ∷ z ++ 61 ∷ 34 ∷ [] =
      t ∙ ap (λ (c : List ℕ). take (length octets - length c) octets) value_is
      ∙ prefix_is octets (32 ∷ z ++ 61 ∷ 34 ∷ []) (q ++ 34 ∷ after) inside in
      let form = ys p.value after (q ++ 34 ∷ [], value_is ∙ sym (append_assoc q (34 ∷ []) after), (q, 34 ∷ [], refl, spells, refl)) in (
        ap (λ (c : List ℕ). c ++ y) (xs ∙ named_is) ∙ ap (λ (c : List ℕ). (32 ∷ z ++ 61 ∷ 34 ∷ []) ++ c) form.0
            ∙ ap (λ (c : List ℕ). 32 ∷ c) (append_assoc z (61 ∷ 34 ∷ []) (escaped p.value ++ 34 ∷ [])
            ∙ ap (λ (c : List ℕ). c ++ 61 ∷ 34 ∷ (escaped p.value ++ 34 ∷ [])) k) ∙ sym (form_raw p),
        form.1,
      ),
  ye ∙ ap (λ (c : List ℕ). c ++ y) xe ∙ append_assoc old x y,
)

pub record ParamsWritten (octets rest old out : List ℕ) : Type 0 where
  pub done : List ℕ
  pub parts : out ≡ old ++ done
  pub is : (ps : List ParamParts) (t after : List ℕ) → Each Param ps t → octets ≡ t ++ 93 ∷ after
      → (todo : List ParamParts) × (s : List ℕ) × Each Param todo s × (rest ≡ s ++ 93 ∷ after)
      × (flat_map param_form ps ≡ done ++ flat_map param_form todo)

pub params_none : (octets old : List ℕ) → ParamsWritten octets octets old old
params_none octets old = record {
  done = [];
  parts = sym (append-nil old);
  is = λ ps t after h e. (ps, t, h, e, refl);
}

pub params_begun : (octets rest old out : List ℕ) → ParamsWritten octets rest old out → Adds Anything old out
params_begun octets rest old out w = (w.done, tt, w.parts)

pub params_more : (octets rest behind others old out mid : List ℕ) → rest ≡ 32 ∷ others
    → Adds (FirstParam rest behind) out mid → ParamsWritten octets rest old out → ParamsWritten octets behind old mid
params_more octets rest behind others old out mid e (z, zs, ze) w = record {
  done = w.done ++ z;
  parts = ze ∙ ap (λ (u : List ℕ). u ++ z) w.parts ∙ append_assoc old w.done z;
  is = λ ps t after h g. let l = w.is ps t after h g in one ps after l.0 l.1 l.2 l.3 l.4;
}
  where
    one : (ps : List ParamParts) (after : List ℕ) (todo : List ParamParts) (s : List ℕ) → Each Param todo s
        → rest ≡ s ++ 93 ∷ after → flat_map param_form ps ≡ w.done ++ flat_map param_form todo
        → (ks : List ParamParts) × (u : List ℕ) × Each Param ks u × (behind ≡ u ++ 93 ∷ after)
        × (flat_map param_form ps ≡ (w.done ++ z) ++ flat_map param_form ks)
    one ps after [] s k i g =
        absurd (omega (arith, heads 32 93 others after (sym e ∙ i ∙ ap (λ (u : List ℕ). u ++ 93 ∷ after) k)))
    one ps after (q ∷ todo) s (x, y, j, k, l) i g =
        let form = zs q (y ++ 93 ∷ after)
        (x, i ∙ ap (λ (u : List ℕ). u ++ 93 ∷ after) j ∙ append_assoc x y (93 ∷ after), k) in (
          todo,
          y,
          l,
          form.1,
          g ∙ ap (λ (u : List ℕ). w.done ++ (u ++ flat_map param_form todo)) (sym form.0)
              ∙ sym (append_assoc w.done z (flat_map param_form todo)),
        )

pub params_end : (octets rest behind old mid new : List ℕ) → IfFirst (λ x. x ≢ 32) rest → behind ≡ drop 1 rest
    → ParamsWritten octets rest old mid → Adds (Only (93 ∷ [])) mid new → Adds (FirstParams octets behind) old new
params_end octets rest behind old mid new other b w (z, zs, ze) = (
  w.done ++ z,
  λ ps after (t, e, (x, y, f, h, g)).
      let whole : octets ≡ x ++ 93 ∷ after = e ∙ rw (f, g) (append_assoc x (93 ∷ []) after) in
      let l = w.is ps x after h whole in one ps after l.0 l.1 l.2 l.3 l.4,
  ze ∙ ap (λ (u : List ℕ). u ++ z) w.parts ∙ append_assoc old w.done z,
)
  where
    one : (ps : List ParamParts) (after : List ℕ) (todo : List ParamParts) (s : List ℕ) → Each Param todo s
        → rest ≡ s ++ 93 ∷ after → flat_map param_form ps ≡ w.done ++ flat_map param_form todo
        → (w.done ++ z ≡ flat_map param_form ps ++ 93 ∷ []) × (behind ≡ after)
    one ps after [] s k i g = (
      ap (λ (u : List ℕ). w.done ++ u) zs ∙ ap (λ (u : List ℕ). u ++ 93 ∷ []) (sym (g ∙ append-nil w.done)),
      b ∙ ap (drop 1) (i ∙ ap (λ (u : List ℕ). u ++ 93 ∷ after) k),
    )
    one ps after (q ∷ todo) s (x, y, j, k, l) i g =
        let p = param_prefix x (q, k) in
        let whole : rest ≡ 32 ∷ ((p.0 ++ y) ++ 93 ∷ after) =
        i ∙ ap (λ (u : List ℕ). u ++ 93 ∷ after) (j ∙ ap (λ (u : List ℕ). u ++ y) p.1) in
        absurd (subst (IfFirst (λ n. n ≢ 32)) whole other refl)

-- ---- elements

-- up to the parameters of an element
pub element_begun : (octets behind params head rest old mid new : List ℕ) (n : ℕ) → behind ≡ drop 1 octets
    → IsIdLength behind n → params ≡ drop n behind → head ≡ take (length octets - length params) octets
    → Adds (Only head) old mid → Adds (FirstParams params rest) mid new → Adds (FirstElement octets rest) old new
element_begun octets behind params head rest old mid new n b len p t (x, xs, xe) (y, ys, ye) = (
  x ++ y,
  λ d after (text, parts, (a, c, e, h, (w, z, f, (valid, name), (u, v, g, each, close)))).
      let inside : octets ≡ (91 ∷ w) ++ (u ++ 93 ∷ after) =
      parts ∙ rw (e, f, g, h, close) (ap (λ (s : List ℕ). 91 ∷ s)
      (append_assoc w (u ++ 93 ∷ []) after ∙ ap (λ (s : List ℕ). w ++ s) (append_assoc u (93 ∷ []) after))) in
      let behind_is : behind ≡ w ++ (u ++ 93 ∷ after) = b ∙ ap (drop 1) inside in
      let n_is : n ≡ length w = id_ends d.params u after w behind behind_is
      (subst (AllByRecursion IsNameOctet) (sym name) valid.octets) each n len in
      let params_is : params ≡ u ++ 93 ∷ after = p ∙ rw (n_is, behind_is) (drop_at w (u ++ 93 ∷ after) (length w) refl) in
      let head_is : head ≡ 91 ∷ w =
      t ∙ ap (λ (s : List ℕ). take (length octets - length s) octets) params_is
      ∙ prefix_is octets (91 ∷ w) (u ++ 93 ∷ after) inside in
      let form = ys d.params after (u ++ 93 ∷ [], params_is ∙ sym (append_assoc u (93 ∷ []) after), (u, 93 ∷ [], refl, each, refl)) in (
        ap (λ (s : List ℕ). s ++ y) (xs ∙ head_is) ∙ ap (λ (s : List ℕ). (91 ∷ w) ++ s) form.0
            ∙ ap (λ (s : List ℕ). 91 ∷ (s ++ (flat_map param_form d.params ++ 93 ∷ []))) name ∙ sym (form_text d),
        form.1,
      ),
  ye ∙ ap (λ (s : List ℕ). s ++ y) xe ∙ append_assoc old x y,
)

-- ---- what is put at last

pub param_puts : {E : Type 0} (octets behind marked value named old mid new : List ℕ) (n : ℕ) (r : Result (Bor (List ℕ)) E)
    → behind ≡ drop 1 octets → IsNameLength behind n → marked ≡ drop n behind → value ≡ drop 1 (drop 1 marked)
    → named ≡ take (length octets - length value) octets → Adds (Only named) old mid
    → MatchResult r (λ rest. Adds (FirstValue value rest.now) mid new) (λ e. Adds Anything mid new)
    → MatchResult r (λ rest. Adds (FirstParam octets rest.now) old new) (λ e. Adds Anything old new)
param_puts octets behind marked value named old mid new n (Ok rest) b len m v t a p =
    param_begun octets behind marked value named rest.now old mid new n b len m v t a p
param_puts octets behind marked value named old mid new n (Err e) b len m v t a p =
    adds_some (Only named) Anything old mid new a p

pub element_puts : {E : Type 0} (octets behind params head old mid new : List ℕ) (n : ℕ) (r : Result (Bor (List ℕ)) E)
    → behind ≡ drop 1 octets → IsIdLength behind n → params ≡ drop n behind
    → head ≡ take (length octets - length params) octets → Adds (Only head) old mid
    → MatchResult r (λ rest. Adds (FirstParams params rest.now) mid new) (λ e. Adds Anything mid new)
    → MatchResult r (λ rest. Adds (FirstElement octets rest.now) old new) (λ e. Adds Anything old new)
element_puts octets behind params head old mid new n (Ok rest) b len p t a q =
    element_begun octets behind params head rest.now old mid new n b len p t a q
element_puts octets behind params head old mid new n (Err e) b len p t a q =
    adds_some (Only head) Anything old mid new a q
