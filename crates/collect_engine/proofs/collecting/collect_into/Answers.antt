use Rattle.std.proofs.Common.{ℕ, [], refl, sym, ◌∙◌, subst}
use Rattle.std.specs.Prelude.{Ok, Err, codes}
use Rattle.archive_text.specs.Text.{text_of}
use Rattle.syslog_collect.specs.Logs.{waiting}
use Rattle.syslog_collect.specs.Standing.{Stands}
use Rattle.collect_engine.specs.Collecting.{IfArchived, IsArchiveOf, Served, WritesText}
use Rattle.collect_engine.specs.declared.serve_end.Stopped.TheVariants as stopped
use Rattle.collect_engine.proofs.Collected.{archived, from_nothing, nothing_served, notes_out}
use Rattle.collect_engine.proofs.Serves.{gave_none}
use Rattle.collect_engine.proofs.collecting.collect_into.Goals as goal

pub returns-in_default : goal.returns-in_default
returns-in_default g c = (
  Err stopped.Memory,
  [],
  [],
  [],
  [],
  codes "want of memory\n",
  gave_none (g.R.Source.state c.args.source.now),
  nothing_served c.args.reading,
  tt,
  ((c.tell_memory.ensures.status, refl, refl), refl),
  c.tell_memory.ensures.noted,
)

pub returns-in-Ok-serve_steps : goal.returns-in-Ok-serve_steps
returns-in-Ok-serve_steps g c =
    let old = c.in-Ok.collector in
    let new = c.serve_steps.new.collector in
    let first = g.S.Store.entries c.args.store in
    let stands : Stands old.reading old.connections (g.S.Store.entries old.store) first [] = c.in-Ok.ensures.stands
    in
    let here = c.in-Ok-serve_steps in
    let made = here.ensures.served first [] stands in
    let settled = here.ensures.settled first [] stands c.in-Ok.ensures.settled in
    let end : Served = Ok here.refused in
    let archive = archived end c.args.reading new.reading new.connections (g.S.Store.entries new.store) first made.1
    (c.serve_steps.ensures.reading ∙ c.in-Ok.ensures.reading) c.requires (g.S.Store.archive new.store) made.4 settled in
    let written = c.write_archive.ensures in (
      end,
      made.0,
      made.1,
      made.2,
      g.S.Store.entries c.store.result.now,
      written.0,
      made.3,
      from_nothing c.args.reading old.reading old.connections (waiting new.connections) end made.0 made.1 made.2
          c.in-Ok.ensures.reading c.in-Ok.ensures.settled made.6,
      subst (λ s. IsArchiveOf c.args.reading made.1 (g.S.Store.entries s)) (sym c.store.ensures.same) archive,
      subst (λ (n : ℕ). WritesText (text_of (g.S.Store.entries c.store.result.now)) n [] (codes "write fault\n")
          c.write_archive.result (g.W.Output.state c.args.writer.now).failures
          (g.W.Output.state c.write_archive.new.writer).failures
          (g.W.Output.state c.args.writer.now).taken (g.W.Output.state c.write_archive.new.writer).taken written.0)
          c.end_status.ensures written.1,
      notes_out end _ _ _ _ _ _ made.2 written.0 here.ensures.failures made.5 written.2,
    )

pub returns : goal.returns
returns g c =
    let old = c.in-Ok.collector in
    let new = c.serve_steps.new.collector in
    let first = g.S.Store.entries c.args.store in
    let stands : Stands old.reading old.connections (g.S.Store.entries old.store) first [] = c.in-Ok.ensures.stands
    in
    let here = c.in-Err in
    let made = here.ensures.served first [] stands in
    let settled = here.ensures.settled first [] stands c.in-Ok.ensures.settled in
    let end : Served = Err here.stopped in
    let archive = archived end c.args.reading new.reading new.connections (g.S.Store.entries new.store) first made.1
    (c.serve_steps.ensures.reading ∙ c.in-Ok.ensures.reading) c.requires (g.S.Store.archive new.store) made.4 settled in
    let written = c.stop.ensures in (
      end,
      made.0,
      made.1,
      made.2,
      g.S.Store.entries c.store-in-Err.result.now,
      written.0,
      made.3,
      from_nothing c.args.reading old.reading old.connections (waiting new.connections) end made.0 made.1 made.2
          c.in-Ok.ensures.reading c.in-Ok.ensures.settled made.6,
      subst (λ s. IfArchived end (IsArchiveOf c.args.reading made.1 (g.S.Store.entries s)))
          (sym c.store-in-Err.ensures.same) archive,
      written.1,
      notes_out end _ _ _ _ _ _ made.2 written.0 here.ensures.failures made.5 written.2,
    )
