use Rattle.std.proofs.Common.{List, ℕ, refl, sym, subst}
use Rattle.std.specs.Prelude.{Option}
use Rattle.std.proofs.lemmas.Result.{on_ok_weaker}
use Rattle.syslog_frame.specs.declared.framing.Framing.{Framing}
use Rattle.frame_engine.specs.Converted.{Converts, convert_handling}
use Rattle.driver.specs.Effects.{Adds, done_of}
use Rattle.frame_engine.specs.Readings.{AddsRecord}
use Rattle.frame_engine.proofs.ConvertLemmas.{adds_after, bare, converted, in_frame, noted}
use Rattle.frame_engine.proofs.HandlingLemmas.{build}
use Rattle.frame_engine.proofs.convert.Convert.convert.Goals as goal

pub returns-in-None-clause-ok : goal.returns-in-None-clause-ok
returns-in-None-clause-ok c =
    let way = c.args.self.now.reading in
    let to = c.args.self.now.to in
    let f = c.args.frame.now in
    let before = c.args.effects.now in
    let old = done_of before in
    let new = build before.refused c.put_reading.new.out.items before.diagnostics.items in
    converted way to c.args.number f old new
    (subst (λ (t : Option Framing). Adds (Converts way t c.args.number f) old new) (sym c.in_default.is)
    (bare way c.args.number f old new (rw c.in-None.is at c.in_ok-put_reading.ensures.ok) refl refl))

pub returns-in-Some-2-clause-ok : goal.returns-in-Some-2-clause-ok
returns-in-Some-2-clause-ok c =
    let way = c.args.self.now.reading in
    let to = c.args.self.now.to in
    let f = c.args.frame.now in
    let new = done_of c.add_refusal.new.effects in
    let (is, same) = rw c.in-Some-2.is at c.in_ok-put_reading.ensures.ok in
    on_ok_weaker c.add_refusal.result
    (λ e. adds_after (convert_handling way to c.args.number f) (done_of c.args.effects.now) _ new refl same refl
    (noted way to c.args.number f c.in-Some-2.line _ new is e))
    c.add_refusal.ensures.ok

pub returns-in-None-2-clause-ok : goal.returns-in-None-2-clause-ok
returns-in-None-2-clause-ok c =
    let way = c.args.self.now.reading in
    let to = c.args.self.now.to in
    let f = c.args.frame.now in
    let old = done_of c.args.effects.now in
    let new = done_of c.put_framed.new.effects in
    let scratch = c.put_reading-2.new.out.items in
    on_ok_weaker c.put_framed.result
    (λ h. converted way to c.args.number f old new
    (subst (λ (t : Option Framing). Adds (Converts way t c.args.number f) old new) (sym c.in-Some.is)
    (in_frame way c.in-Some.framing c.args.number f scratch old _ new
    (subst (λ (s : List ℕ). AddsRecord way f s scratch) c.clear.ensures.items
    (rw c.in-None-2.is at c.in_ok-put_reading-2.ensures.ok)) refl h)))
    c.put_framed.ensures.ok

pub returns-in-Some-3-clause-ok : goal.returns-in-Some-3-clause-ok
returns-in-Some-3-clause-ok c =
    let way = c.args.self.now.reading in
    let to = c.args.self.now.to in
    let f = c.args.frame.now in
    let new = done_of c.add_refusal-in-Some-3.new.effects in
    let (is, same) = rw c.in-Some-3.is at c.in_ok-put_reading-2.ensures.ok in
    on_ok_weaker c.add_refusal-in-Some-3.result
    (λ e. noted way to c.args.number f c.in-Some-3.line (done_of c.args.effects.now) new is e)
    c.add_refusal-in-Some-3.ensures.ok
