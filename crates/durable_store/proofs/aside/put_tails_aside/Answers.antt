use Rattle.std.proofs.Common.{◌≡◌, [], ◌∷◌, ◌++◌, take, rules, sym, ap, map, subst, ◌∙◌}
use Rattle.std.proofs.lemmas.List.{take_all, take_more}
use Rattle.journal.specs.Journals.{IsSound}
use Rattle.record_store.specs.Causes.{IsCause, opening_causes}
use Rattle.durable_store.specs.Asides.{AreTails, tail_number}
use Rattle.durable_store.specs.declared.tail.Tail.{Tail}
use Rattle.durable_store.proofs.Asides.{PutSo, next_tail, one_fails, put_more, put_none, still_there, shown_there}
use Rattle.durable_store.proofs.Readable.{at_err}
use Rattle.durable_store.proofs.aside.put_tails_aside.Goals as goal

pub loop-tail-init : goal.loop-tail-init
loop-tail-init g c = record {
  told = λ tells. tells;
  put = λ tells sound are. subst (λ l. PutSo (g.D.Disk.state c.args.disk.now) (g.D.Disk.state c.args.disk.now) [] l)
      (sym c.new-asides.ensures.items) (put_none (g.D.Disk.state c.args.disk.now) sound);
}

pub loop-tail-preserved : goal.loop-tail-preserved
loop-tail-preserved g c =
    let zero = g.D.Disk.state c.args.disk.now in
    let one = g.D.Disk.state c.loop-tail.disk in
    let two = g.D.Disk.state c.put_aside.new.disk in
    let tails = c.args.tails.now in
    let index = c.loop-tail.tail-index in
    let first = take index tails in
    let tail = c.tail-item.result in
    let more = take_more tails index tail c.loop-tail-test.true
    ∙ ap (λ (t : Tail). first ++ t ∷ []) (sym c.tail-item.is) in
    record {
      told = λ tells. c.loop-tail.invariant.told (c.put_aside.ensures.told tells);
      put = λ tells sound are.
          let told = c.put_aside.ensures.told tells in
          let so = c.loop-tail.invariant.put told sound are in
          let is = next_tail zero tails first tail index more are in
          let there = still_there zero one first c.loop-tail.asides.items tail so is.0 is.1 in
          let items : c.push.new.self.items ≡ c.loop-tail.asides.items ++ c.in_ok-aside.aside ∷ [] = search rules in
          subst (λ l. PutSo zero two l c.push.new.self.items) (sym more)
          (subst (λ l. PutSo zero two (first ++ tail ∷ []) l) (sym items)
          (put_more zero one two first c.loop-tail.asides.items tail c.in_ok-aside.aside so is.0 is.1 there
          (c.in_ok-aside.ensures.beside tells so.sound there) (c.in_ok-aside.ensures.aside tells so.sound there)
          (c.in_ok-aside.ensures.sound tells so.sound there) (c.put_aside.ensures.any_moment tells so.sound there)));
    }

pub returns-in_err-aside-clause-any_moment : goal.returns-in_err-aside-clause-any_moment
returns-in_err-aside-clause-any_moment g c tells sound are committed received keeps =
    let zero = g.D.Disk.state c.args.disk.now in
    let one = g.D.Disk.state c.loop-tail.disk in
    let two = g.D.Disk.state c.put_aside.new.disk in
    let tails = c.args.tails.now in
    let index = c.loop-tail.tail-index in
    let first = take index tails in
    let tail = c.tail-item.result in
    let more = take_more tails index tail c.loop-tail-test.true
    ∙ ap (λ (t : Tail). first ++ t ∷ []) (sym c.tail-item.is) in
    let told = c.put_aside.ensures.told tells in
    let so = c.loop-tail.invariant.put told sound are in
    let is = next_tail zero tails first tail index more are in
    let there = still_there zero one first c.loop-tail.asides.items tail so is.0 is.1 in
    c.put_aside.ensures.any_moment tells so.sound there committed received (so.keeps committed received keeps)

pub returns-then-is_err-clause-any_moment : goal.returns-then-is_err-clause-any_moment
returns-then-is_err-clause-any_moment g c tells sound are committed received keeps =
    let zero = g.D.Disk.state c.args.disk.now in
    let one = g.D.Disk.state c.loop-tail.disk in
    let two = g.D.Disk.state c.put_aside.new.disk in
    let tails = c.args.tails.now in
    let index = c.loop-tail.tail-index in
    let first = take index tails in
    let tail = c.tail-item.result in
    let more = take_more tails index tail c.loop-tail-test.true
    ∙ ap (λ (t : Tail). first ++ t ∷ []) (sym c.tail-item.is) in
    let told = c.put_aside.ensures.told tells in
    let so = c.loop-tail.invariant.put told sound are in
    let is = next_tail zero tails first tail index more are in
    let there = still_there zero one first c.loop-tail.asides.items tail so is.0 is.1 in
    c.put_aside.ensures.any_moment tells so.sound there committed received (so.keeps committed received keeps)

pub returns-in_err-aside-clause-cause : goal.returns-in_err-aside-clause-cause
returns-in_err-aside-clause-cause g c =
    let zero = g.D.Disk.state c.args.disk.now in
    let one = g.D.Disk.state c.loop-tail.disk in
    let two = g.D.Disk.state c.put_aside.new.disk in
    let tails = c.args.tails.now in
    let index = c.loop-tail.tail-index in
    let first = take index tails in
    let tail = c.tail-item.result in
    let more = take_more tails index tail c.loop-tail-test.true
    ∙ ap (λ (t : Tail). first ++ t ∷ []) (sym c.tail-item.is) in
    let tells_then = g.D.Disk.tells c.put_aside.new.disk in
    let failed_then = g.D.Disk.has_failed c.put_aside.new.disk in
    let fault = c.in_err-aside.field-0.0 in
    at_err c.from_residual.result fault
    (λ f. (tells_then → IsSound zero → AreTails zero tails) → IsCause (opening_causes tells_then failed_then zero) f)
    c.from_residual.ensures.1
    (λ are. one_fails tells_then failed_then zero one tail
    (λ tells sound.
    let so = c.loop-tail.invariant.put (c.put_aside.ensures.told tells) sound (are tells sound) in so.sound)
    (λ tells sound.
    let so = c.loop-tail.invariant.put (c.put_aside.ensures.told tells) sound (are tells sound) in
    let is = next_tail zero tails first tail index more (are tells sound) in
    still_there zero one first c.loop-tail.asides.items tail so is.0 is.1)
    (λ tells sound. (next_tail zero tails first tail index more (are tells sound)).0)
    (λ tells sound.
    let so = c.loop-tail.invariant.put (c.put_aside.ensures.told tells) sound (are tells sound) in
    let is = next_tail zero tails first tail index more (are tells sound) in
    shown_there zero one first c.loop-tail.asides.items tail so is.0 is.1)
    fault c.in_err-aside.ensures.cause)

pub returns-clause-any_moment : goal.returns-clause-any_moment
returns-clause-any_moment g c tells sound are committed received keeps =
    let so = c.loop-tail.invariant.put tells sound are in
    so.keeps committed received keeps

pub returns-clause-sound : goal.returns-clause-sound
returns-clause-sound g c tells sound are =
    let so = c.loop-tail.invariant.put tells sound are in so.sound

pub returns-clause-shows : goal.returns-clause-shows
returns-clause-shows g c tells sound are =
    let so = c.loop-tail.invariant.put tells sound are in so.shows

pub returns-clause-aside : goal.returns-clause-aside
returns-clause-aside g c tells sound are =
    let so = c.loop-tail.invariant.put tells sound are in
    record {
      numbers = so.numbers
          ∙ ap (map tail_number) (take_all c.loop-tail.tail-index c.args.tails.now c.loop-tail-test.false);
      each = so.each;
    }
