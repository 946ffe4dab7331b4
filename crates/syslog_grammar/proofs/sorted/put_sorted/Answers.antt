use Rattle.syslog_grammar.specs.Sorting.{SortedDataOf, SortedElementsOf}
use Rattle.syslog_grammar.proofs.Sorting.{data_sorted, puts_wider}
use Rattle.syslog_grammar.proofs.sorted.put_sorted.Goals as goal

pub returns : goal.returns
returns c =
    puts_wider (SortedElementsOf c.args.is_form c.args.structured_data.now)
    (SortedDataOf c.args.is_form c.args.structured_data.now)
    c.args.out.now.items c.put_elements.new.out.items c.put_elements.result
    (λ b. data_sorted c.args.is_form c.args.structured_data.now c.in-Some._after.now b c.in-Some.first c.in-Some.ensures
    c.if-first-ne91.false) c.put_elements.ensures
