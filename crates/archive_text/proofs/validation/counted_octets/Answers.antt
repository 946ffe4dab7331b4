use Rattle.std.proofs.Common.{refl, drop}
use Rattle.archive_text.proofs.Reading.{behind_length, counted}
use Rattle.archive_text.proofs.validation.counted_octets.Goals as goal

pub returns-then-count-most : goal.returns-then-count-most
returns-then-count-most c =
    let text = c.args.text.now in
    let used = c.in-Whole.used in (
      refl,
      (
        c.in-Whole.count,
        drop used text,
        behind_length c.in-Whole.count used text (drop used text) c.in-Whole.ensures.1 refl,
        c.if-count-most.true,
      ),
    )

pub returns : goal.returns
returns c =
    counted c.args.most c.in-Whole.count c.in-Whole.used c.args.text.now c.split_at.result.1.now
    c.split_at-2.result.0.now c.split_at-2.result.1.now c.in-Whole.ensures.1 c.split_at.ensures.back
    c.split_at-2.ensures.front c.split_at-2.ensures.back c.if-count-behind.false c.if-count-most.false
