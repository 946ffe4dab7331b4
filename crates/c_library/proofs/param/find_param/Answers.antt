use Rattle.std.proofs.Common.{ap, length, refl, subst}
use Rattle.c_library.specs.Spans.{LiesAt}
use Rattle.c_library.proofs.Finding.{name_lies, raw_lies}
use Rattle.c_library.proofs.param.find_param.Goals as goal

pub returns : goal.returns
returns c =
    let b = c.args.octets.now in
    let f = c.in-Ok.ensures in
    let text = c.in-Ok.element.params.now in
    let rest = c.in-Ok-from_param.rest.now in
    let from = c.in-Ok-from_param.ensures f.element.params f.params_are in
    let k = from.3 in
    let split = c.split_param.ensures from.0 k.1 (k.0, k.2, k.3) in
    let name = c.split_param.result.0.now in
    let raw = c.split_param.result.1.now in
    let named = name_lies b text rest from.4.0 name raw split.behind c.in-Ok.element.params_at f.params_lie from.4.1
    split.parts in
    let spelled = raw_lies b text rest from.4.0 name raw split.behind c.in-Ok.element.params_at f.params_lie from.4.1
    split.parts in (
      f.parts,
      f.spells,
      f.element,
      f.number,
      from.0,
      from.2,
      record {
        name = record { lies = subst (LiesAt b _) split.name_is named; len_is = ap length split.name_is };
        value = (raw, record { lies = spelled; len_is = refl }, split.raw_is);
      },
    )
