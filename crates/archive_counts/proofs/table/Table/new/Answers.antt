use Rattle.std.proofs.Common.{rules}
use Rattle.archive_counts.specs.declared.table.Table.{Table}
use Rattle.archive_counts.proofs.Tables.{no_keys, table_alone}
use Rattle.archive_counts.proofs.table.Table.new.Goals as goal

pub returns : goal.returns
returns c =
    let s : Table = record { rows = c.new-rows.result; alloc = c.args.alloc } in
    let t : Table = record { rows = c.insert.new.self; alloc = c.args.alloc } in
    table_alone c.args.keys.now s t c.new-2.result c.new.result.items c.new-rows.ensures.empty
    (no_keys c.args.keys.now c.is_empty.result c.is_empty.ensures (search rules)) c.new-2.ensures c.new.ensures.items
    c.in_ok-insert.ensures.updates
