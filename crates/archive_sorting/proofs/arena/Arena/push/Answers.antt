use Rattle.std.proofs.Common.{arith, refl}
use Rattle.archive_sorting.specs.Spans.{block_at, lists_of, ranked}
use Rattle.archive_sorting.specs.declared.arena.Span.{Span}
use Rattle.archive_sorting.proofs.Blocks.{pushed_value, pushed_within}
use Rattle.archive_sorting.proofs.arena.Arena.push.Goals as goal

pub returns-clause-within : goal.returns-clause-within
returns-clause-within c =
    let s : Span = record { rank = c.args.rank; block = c.in_ok-block.block; start = c.in_ok-start.start } in
    pushed_within c.append.new.blocks.items (block_at (lists_of c.block_with_room.new.blocks.items) c.in_ok-block.block)
    c.args.octets.now s
    (omega (arith, c.in_ok-block.ensures.index.0, c.append.ensures.count)) c.in_ok-start.ensures.octets
    c.in_ok-start.ensures.start (omega (arith, c.requires))

pub returns-clause-value : goal.returns-clause-value
returns-clause-value c =
    let s : Span = record { rank = c.args.rank; block = c.in_ok-block.block; start = c.in_ok-start.start } in
    pushed_value c.append.new.blocks.items (block_at (lists_of c.block_with_room.new.blocks.items) c.in_ok-block.block)
    c.args.octets.now s (ranked c.args.rank c.args.octets.now)
    c.in_ok-start.ensures.octets c.in_ok-start.ensures.start (omega (arith, c.requires)) refl refl
