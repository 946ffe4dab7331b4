use Rattle.std.proofs.Common.{[], refl}
use Rattle.std.specs.Prelude.{codes}
use Rattle.archive_text.specs.Text.{text_of}
use Rattle.collect_engine.specs.declared.serve_end.Stopped.TheVariants as stopped
use Rattle.collect_engine.proofs.Collected.{stop_out, written_unnoted}
use Rattle.collect_engine.proofs.Serves.{appends_none}
use Rattle.collect_engine.proofs.collecting.stop.Goals as goal

pub returns-in-Step : goal.returns-in-Step
returns-in-Step g c =
    let call = c.write_behind in
    stop_out stopped.Step c.args.stopped (text_of (g.S.Store.entries c.args.store.now)) call.result
    (g.W.Output.state c.args.writer.now).failures (g.W.Output.state call.new.writer).failures
    (g.W.Output.state c.args.writer.now).taken (g.W.Output.state call.new.writer).taken
    (g.N.Output.state c.args.notes.now).failures (g.N.Output.state call.new.notes).failures
    (g.N.Output.state c.args.notes.now).taken (g.N.Output.state call.new.notes).taken c.in-Step.is
    call.ensures

pub returns-in-Endless : goal.returns-in-Endless
returns-in-Endless g c =
    let call = c.write_behind-in-Endless in
    stop_out stopped.Endless c.args.stopped (text_of (g.S.Store.entries c.args.store.now)) call.result
    (g.W.Output.state c.args.writer.now).failures (g.W.Output.state call.new.writer).failures
    (g.W.Output.state c.args.writer.now).taken (g.W.Output.state call.new.writer).taken
    (g.N.Output.state c.args.notes.now).failures (g.N.Output.state call.new.notes).failures
    (g.N.Output.state c.args.notes.now).taken (g.N.Output.state call.new.notes).taken c.in-Endless.is
    call.ensures

pub returns-in-Notes : goal.returns-in-Notes
returns-in-Notes g c =
    let call = c.write_unnoted in
    stop_out stopped.Notes c.args.stopped (text_of (g.S.Store.entries c.args.store.now)) call.result
    (g.W.Output.state c.args.writer.now).failures (g.W.Output.state call.new.writer).failures
    (g.W.Output.state c.args.writer.now).taken (g.W.Output.state call.new.writer).taken
    (g.N.Output.state c.args.notes.now).failures (g.N.Output.state c.args.notes.now).failures
    (g.N.Output.state c.args.notes.now).taken (g.N.Output.state c.args.notes.now).taken c.in-Notes.is (
      [],
      written_unnoted _ _ _ _ _ _ call.ensures.written call.ensures.status,
      (refl, appends_none (g.N.Output.state c.args.notes.now).taken),
    )

pub returns-in-Memory : goal.returns-in-Memory
returns-in-Memory g c =
    let call = c.tell_memory in
    stop_out stopped.Memory c.args.stopped (text_of (g.S.Store.entries c.args.store.now)) call.result
    (g.W.Output.state c.args.writer.now).failures (g.W.Output.state c.args.writer.now).failures
    (g.W.Output.state c.args.writer.now).taken (g.W.Output.state c.args.writer.now).taken
    (g.N.Output.state c.args.notes.now).failures (g.N.Output.state call.new.notes).failures
    (g.N.Output.state c.args.notes.now).taken (g.N.Output.state call.new.notes).taken c.in-Memory.is
    (codes "want of memory\n", ((call.ensures.status, refl, refl), refl), call.ensures.noted)

pub returns-in-MemoryAndNotes : goal.returns-in-MemoryAndNotes
returns-in-MemoryAndNotes g c =
    stop_out stopped.MemoryAndNotes c.args.stopped (text_of (g.S.Store.entries c.args.store.now)) 3
    (g.W.Output.state c.args.writer.now).failures (g.W.Output.state c.args.writer.now).failures
    (g.W.Output.state c.args.writer.now).taken (g.W.Output.state c.args.writer.now).taken
    (g.N.Output.state c.args.notes.now).failures (g.N.Output.state c.args.notes.now).failures
    (g.N.Output.state c.args.notes.now).taken (g.N.Output.state c.args.notes.now).taken c.in-MemoryAndNotes.is
    ([], ((refl, refl, refl), refl), (refl, appends_none (g.N.Output.state c.args.notes.now).taken))
