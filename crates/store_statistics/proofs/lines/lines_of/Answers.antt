use Rattle.store_statistics.proofs.Listing.{text_of_all}
use Rattle.store_statistics.proofs.lines.lines_of.Goals as goal

pub returns-clause-all : goal.returns-clause-all
returns-clause-all c on =
    text_of_all c.args.files.now c.sum_of.result c.new-out.result.items c.put_files.new.out.items
    c.put_sums.new.out.items c.new-out.ensures.items c.sum_of.ensures c.in_ok-put_files.ensures
    c.in_ok-put_sums.ensures
