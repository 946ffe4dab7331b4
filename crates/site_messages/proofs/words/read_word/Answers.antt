use Rattle.std.proofs.Common.{◌≡◌, ◌+◌, ◌≤◌, List, ℕ, ap, arith, drop, length, length-append, refl, subst, sym, take, ◌-◌, ◌∷◌, []}
use Rattle.std.specs.Prelude.{Option}
use Rattle.std.proofs.lemmas.List.{length-drop, take_all}
use Rattle.memchr.specs.Find.{IsFirstByte, is_byte}
use Rattle.site_messages.specs.Reading.{IsWhole}
use Rattle.site_messages.specs.Words.{IsWord, word_text}
use Rattle.site_messages.proofs.WordLemmas.{first_word, not_among}
use Rattle.site_messages.proofs.words.read_word.Goals as goal

pub returns-in-Some : goal.returns-in-Some
returns-in-Some c =
    let b = c.args.octets.now in
    let at = c.in-Some.at in
    let low : c.min.result ≤ length b = omega arith in
    let few : c.min.result ≤ c.args.most + 1 = omega arith in
    let found = subst (λ (o : Option ℕ). IsFirstByte (is_byte c.args.end) (take c.min.result b) o) c.in-Some.is
    c.memchr.ensures in
    let whole = first_word b (take c.min.result b) c.args.end c.args.most c.min.result at refl low few found in
    let all : take (length b - (at + 1)) (drop (at + 1) b) ≡ drop (at + 1) b =
    take_all (length b - (at + 1)) (drop (at + 1) b) (omega (arith, length-drop (at + 1) b)) in
    subst (λ (r : List ℕ). IsWhole (IsWord c.args.end c.args.most) (word_text c.args.end) b (take at b) r) (sym all) whole

pub returns-in-None : goal.returns-in-None
returns-in-None c =
    λ w more rest h same.
    let b = c.args.octets.now in
    let low : c.min.result ≤ length b = omega arith in
    let none = subst (λ (o : Option ℕ). IsFirstByte (is_byte c.args.end) (take c.min.result b) o) c.in-None.is
    c.memchr.ensures in
    let far = not_among b (take c.min.result b) w more rest c.args.end c.min.result refl low none same in
    omega (arith, far, h.short)

pub returns-in-None-2 : goal.returns-in-None-2
returns-in-None-2 c = (
  omega arith,
  λ w more rest h same.
      let b = c.args.octets.now in
      let low : c.min.result ≤ length b = omega arith in
      let none = subst (λ (o : Option ℕ). IsFirstByte (is_byte c.args.end) (take c.min.result b) o) c.in-None-2.is
      c.memchr.ensures in
      let far = not_among b (take c.min.result b) w more rest c.args.end c.min.result refl low none same in
      omega (
        arith,
        far,
        h.short,
        ap length same,
        length-append b more,
        length-append (word_text c.args.end w) rest,
        length-append w (c.args.end ∷ []),
      ),
)
