use Rattle.std.proofs.Common.{rules, ◌≡◌, ◌<◌, ◌++◌, ℕ, List, IsTrue, false, length, ap, sym, subst, arith}
use Rattle.std.proofs.lemmas.List.{length-append}
use Rattle.syslog_frame.specs.MsgLen.{IsMsgLen}
use Rattle.syslog_frame.specs.declared.count.MsgLen.TheVariants.{Whole, Part, Bad}
use Rattle.archive_text.specs.Faults.{IsBadFrame}
use Rattle.archive_text.specs.declared.limits.TheConstants.{ENTRY_MAX}
use Rattle.archive_streams.specs.Counting.{IsUnfinished}
use Rattle.archive_streams.specs.Pieces.{unused}
use Rattle.archive_streams.proofs.Counting.{bad_count, bad_within, cut_count, cut_here, input_fault, unfinished_short}
use Rattle.archive_streams.proofs.Counting.{whole_all}
use Rattle.archive_streams.proofs.reading.next_digit.Goals as goal

pub take-requires-clause-room : goal.take-requires-clause-room
take-requires-clause-room g c = omega (
  arith,
  unfinished_short c.args.text.now.items c.requires.unfinished,
  c.requires.room,
)

pub returns-in-Err-clause-fault : goal.returns-in-Err-clause-fault
returns-in-Err-clause-fault g c =
    let text = c.take.new.text.items in
    let rest = unused c.take.new.self in
    let none = c.in-Err.ensures.none in
    let cut = cut_here ENTRY_MAX text rest none.0
    (cut_count ENTRY_MAX text rest (subst IsUnfinished (sym none.1) c.requires.unfinished) none.0) in
    input_fault c.in-Err.fault (text ++ rest) c.take.new.self cut c.in-Err.ensures.endless

pub returns-then-not-some-clause-fault : goal.returns-then-not-some-clause-fault
returns-then-not-some-clause-fault g c =
    let text = c.take.new.text.items in
    let rest = unused c.take.new.self in
    let none : c.in-Ok.some ≡ false = search rules in
    let end = c.in-Ok.ensures.end none in
    let some : 0 < length text = search rules in
    let cut = cut_count ENTRY_MAX text rest (subst IsUnfinished (sym end.2) c.requires.unfinished) end.0 in
    let at : c.len-at.result ≡ length text = omega arith in
    (subst (IsBadFrame ENTRY_MAX (text ++ rest)) (sym at) cut, omega (arith, some, length-append text rest), λ e. end.1)

pub returns-in-Part-clause-short : goal.returns-in-Part-clause-short
returns-in-Part-clause-short g c =
    let some : IsTrue c.in-Ok.some = search rules in
    let m = c.in-Ok.ensures.some some in
    omega (
      arith,
      unfinished_short c.args.text.now.items c.requires.unfinished,
      m.few,
      ap length m.grown,
      length-append c.args.text.now.items m.more,
    )

pub returns-in-Part-clause-step : goal.returns-in-Part-clause-step
returns-in-Part-clause-step g c =
    let some : IsTrue c.in-Ok.some = search rules in
    let m = c.in-Ok.ensures.some some in
    let h : IsMsgLen c.take.new.text.items Part =
    subst (λ (s : List ℕ). IsMsgLen s Part) c.deref.ensures.value c.in-Part.ensures in (
      record { none = h.0; begins = h.1 },
      omega
          (arith, m.some, m.few, ap length m.grown, length-append c.args.text.now.items m.more),
    )

pub returns-in-Whole-clause-short : goal.returns-in-Whole-clause-short
returns-in-Whole-clause-short g c =
    let some : IsTrue c.in-Ok.some = search rules in
    let m = c.in-Ok.ensures.some some in
    omega (
      arith,
      unfinished_short c.args.text.now.items c.requires.unfinished,
      m.few,
      ap length m.grown,
      length-append c.args.text.now.items m.more,
    )

pub returns-in-Whole-clause-step : goal.returns-in-Whole-clause-step
returns-in-Whole-clause-step g c =
    let some : IsTrue c.in-Ok.some = search rules in
    let m = c.in-Ok.ensures.some some in
    let h : IsMsgLen c.take.new.text.items (Whole c.in-Whole.count c.in-Whole.used) =
    subst (λ (s : List ℕ). IsMsgLen s (Whole c.in-Whole.count c.in-Whole.used)) c.deref.ensures.value
    c.in-Whole.ensures in
    whole_all c.args.text.now.items m.more c.take.new.text.items c.in-Whole.count c.in-Whole.used c.requires.unfinished
    m.grown m.few h

pub returns-in-Bad-clause-fault : goal.returns-in-Bad-clause-fault
returns-in-Bad-clause-fault g c =
    let text = c.take.new.text.items in
    let rest = unused c.take.new.self in
    let h : IsMsgLen text (Bad c.in-Bad.at) =
    subst (λ (s : List ℕ). IsMsgLen s (Bad c.in-Bad.at)) c.deref.ensures.value c.in-Bad.ensures in
    let within = bad_within text c.in-Bad.at h in (
      bad_count ENTRY_MAX text rest c.in-Bad.at h,
      omega (arith, within, length-append text rest),
      λ e.
          absurd (omega (arith, e, within, length-append text rest)),
    )
