use Rattle.syslog_reading.specs.Views.{param_span}
use Rattle.c_library.proofs.Splitting.{param_split}
use Rattle.c_library.proofs.param.split_param.Goals as goal

pub returns : goal.returns
returns c = λ q after first.
    param_split q (param_span c.first_param.result.0) c.args.text.now after c.first_param.result.1.now c.name.result.now
    c.raw.result.now first c.first_param.ensures.param c.name.ensures c.raw.ensures
