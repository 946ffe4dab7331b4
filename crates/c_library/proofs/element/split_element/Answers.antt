use Rattle.std.proofs.Common.{refl}
use Rattle.c_library.proofs.Splitting.{element_split}
use Rattle.c_library.proofs.element.split_element.Goals as goal

pub returns : goal.returns
returns c = λ e after first.
    element_split e (record { id = c.next_element.result.0.now; params = c.next_element.result.1.now }) c.args.text.now
    after c.next_element.result.2.now c.next_element.result.0.now c.next_element.result.1.now first
    c.next_element.ensures refl refl
