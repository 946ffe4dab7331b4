use Rattle.std.proofs.Common.{[], ap, arith, length, sym, ◌++◌}
use Rattle.syslog_reading.specs.Views.{param_span}
use Rattle.c_library.proofs.Placing.{placed_none}
use Rattle.c_library.proofs.Putting.{Pair, pair_count, pair_put, param_first, param_length, params_all}
use Rattle.c_library.proofs.Putting.{params_more, params_none}
use Rattle.c_library.proofs.part_spans.put_params.Goals as goal

pub loop-first-init : goal.loop-first-init
loop-first-init c = (
  [],
  sym (placed_none c.args.index c.args.room.now),
  omega arith,
  params_none c.args.at c.args.text.now c.requires.each,
)

pub overflow_add-here-in-Some-4 : goal.overflow_add-here-in-Some-4
overflow_add-here-in-Some-4 c =
    let v = param_span c.first_param.result.0 in
    let put = c.loop-first.invariant.3 in
    let first = param_first c.args.at c.loop-first.here c.args.text.now c.loop-first.rest.now
    c.first_param.result.1.now c.in-Some._after.now c.in-Some._first v c.loop-first.invariant.0 c.in-Some.ensures
    c.first_param.ensures.param put in
    let len = param_length v c.loop-first.rest.now c.first_param.result.1.now first in
    omega (
      arith,
      len,
      put.here_is,
      c.requires.within,
      ap length c.name-name.ensures,
      ap length c.raw-raw.ensures,
    )

pub overflow_add-here-in-Some-5 : goal.overflow_add-here-in-Some-5
overflow_add-here-in-Some-5 c =
    let v = param_span c.first_param.result.0 in
    let put = c.loop-first.invariant.3 in
    let first = param_first c.args.at c.loop-first.here c.args.text.now c.loop-first.rest.now
    c.first_param.result.1.now c.in-Some._after.now c.in-Some._first v c.loop-first.invariant.0 c.in-Some.ensures
    c.first_param.ensures.param put in
    let len = param_length v c.loop-first.rest.now c.first_param.result.1.now first in
    omega (
      arith,
      len,
      put.here_is,
      c.requires.within,
      ap length c.name-name.ensures,
      ap length c.raw-raw.ensures,
    )

pub loop-first-preserved : goal.loop-first-preserved
loop-first-preserved c =
    let v = param_span c.first_param.result.0 in
    let done = c.loop-first.invariant.0 in
    let here = c.loop-first.here in (
      done ++ Pair here v.name v.raw,
      pair_put c.args.index c.loop-first.count here done c.args.room.now c.loop-first.room c.place.new.room
          c.new.result c.new-in-Some.result v.name v.raw c.name-name.result.now c.raw-raw.result.now c.new.ensures
          c.new-in-Some.ensures c.name-name.ensures c.raw-raw.ensures c.loop-first.invariant.1 c.loop-first.invariant.2
          c.place.ensures,
      pair_count c.args.index c.loop-first.count here done v.name v.raw c.loop-first.invariant.2,
      rw (c.name-name.ensures, c.raw-raw.ensures)
          (params_more c.args.at here c.args.text.now c.loop-first.rest.now c.first_param.result.1.now
          c.in-Some._after.now c.in-Some._first v done c.in-Some.ensures c.first_param.ensures.param
          c.loop-first.invariant.3),
    )

pub returns : goal.returns
returns c = (
  c.loop-first.invariant.0,
  record {
    room_is = c.loop-first.invariant.1;
    result_is = c.loop-first.invariant.2;
    few = omega (arith, c.loop-first.invariant.3.few);
  },
  params_all c.args.at c.loop-first.here c.args.text.now c.loop-first.rest.now c.loop-first.invariant.0
      c.in_default.ensures c.loop-first.invariant.3,
)
