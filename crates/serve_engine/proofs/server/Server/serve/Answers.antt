use Rattle.std.proofs.Common.{[], ◌∷◌, inl, inr, refl, arith, ◌∙◌}
use Rattle.serve_engine.specs.Servers.{place_of, told_of}
use Rattle.serve_engine.proofs.Told.{run_more}
use Rattle.serve_engine.proofs.Rounds.{endless, ends, next, none_served, start}
use Rattle.serve_engine.proofs.Watched.{watched}
use Rattle.serve_engine.proofs.server.Server.serve.Goals as goal

pub returns-in_default-clause-served : goal.returns-in_default-clause-served
returns-in_default-clause-served g c = none_served _ _ _

pub loop-turn-init : goal.loop-turn-init
loop-turn-init g c = record {
  done = λ k first before at none. start _ _ _ k first before at none;
  manner = refl;
  told = λ k first before at none. ([], refl);
  leads = ([], refl);
  syncs = ([], refl);
  watched = ([], refl, refl);
}

pub loop-turn-preserved : goal.loop-turn-preserved
loop-turn-preserved g c = record {
  done = λ k first before at none.
      next _ _ _ _ _ _ k first before c.loop-turn.invariant.manner
      (c.loop-turn.invariant.done k first before at none) (rw c.in-On.is at c.turn-went.ensures.served);
  manner = c.turn-went.ensures.manner ∙ c.loop-turn.invariant.manner;
  told = λ k first before at none.
      let so = c.loop-turn.invariant.done k first before at none in
      run_more (told_of (g.N.Output.state) c.args.self.now) (told_of (g.N.Output.state) c.loop-turn.self)
      (told_of (g.N.Output.state) c.turn-went.new.self) (c.loop-turn.invariant.told k first before at none)
      (c.turn-went.ensures.notes _ first _ so.stands_by);
  leads = (
    place_of (g.R.Output.state) (g.K.Keeping.short) c.loop-turn.self (g.Q.ServerSource.state c.loop-turn.source)
        ∷ c.loop-turn.invariant.leads.0,
    (c.loop-turn.invariant.leads.1, rw c.in-On.is at c.turn-went.ensures.served),
  );
  syncs = (
    place_of (g.R.Output.state) (g.K.Keeping.short) c.loop-turn.self (g.Q.ServerSource.state c.loop-turn.source)
        ∷ c.loop-turn.invariant.syncs.0,
    (c.loop-turn.invariant.syncs.1, rw c.in-On.is at c.turn-went.ensures.served, c.turn-went.ensures.syncs),
  );
  watched =
      let so = c.loop-turn.invariant.watched in
      (c.view.result ∷ so.0, (c.loop-turn.watch, so.1, c.see.ensures), c.view.ensures);
}

pub returns-in-End-clause-served : goal.returns-in-End-clause-served
returns-in-End-clause-served g c = record {
  leads = (
    place_of (g.R.Output.state) (g.K.Keeping.short) c.loop-turn.self (g.Q.ServerSource.state c.loop-turn.source),
    c.loop-turn.invariant.leads,
    inr (rw c.in-End.is at c.turn-went.ensures.served),
  );
  done = λ k first before at none.
      ends _ _ _ _ _ _ c.in-End.end k first before (omega arith) c.loop-turn.invariant.manner
      (c.loop-turn.invariant.done k first before at none) (rw c.in-End.is at c.turn-went.ensures.served);
}

pub returns-clause-served : goal.returns-clause-served
returns-clause-served g c = record {
  leads = (
    place_of (g.R.Output.state) (g.K.Keeping.short) c.loop-turn.self (g.Q.ServerSource.state c.loop-turn.source),
    c.loop-turn.invariant.leads,
    inl refl,
  );
  done = λ k first before at none.
      endless _ _ _ _ _ k first before (omega arith) (c.loop-turn.invariant.done k first before at none);
}

pub returns-in_default-clause-notes : goal.returns-in_default-clause-notes
returns-in_default-clause-notes g c k first before at none = ([], refl)

pub returns-in-End-clause-notes : goal.returns-in-End-clause-notes
returns-in-End-clause-notes g c k first before at none =
    let so = c.loop-turn.invariant.done k first before at none in
    run_more (told_of (g.N.Output.state) c.args.self.now) (told_of (g.N.Output.state) c.loop-turn.self)
    (told_of (g.N.Output.state) c.turn-went.new.self) (c.loop-turn.invariant.told k first before at none)
    (c.turn-went.ensures.notes _ first _ so.stands_by)

pub returns-clause-notes : goal.returns-clause-notes
returns-clause-notes g c k first before at none = c.loop-turn.invariant.told k first before at none

pub returns-in_default-clause-syncs : goal.returns-in_default-clause-syncs
returns-in_default-clause-syncs g c = (
  place_of (g.R.Output.state) (g.K.Keeping.short) c.args.self.now (g.Q.ServerSource.state c.args.source.now),
  ([], refl),
  inl refl,
)

pub returns-in-End-clause-syncs : goal.returns-in-End-clause-syncs
returns-in-End-clause-syncs g c = (
  place_of (g.R.Output.state) (g.K.Keeping.short) c.loop-turn.self (g.Q.ServerSource.state c.loop-turn.source),
  c.loop-turn.invariant.syncs,
  inr (rw c.in-End.is at c.turn-went.ensures.served, c.turn-went.ensures.syncs),
)

pub returns-clause-syncs : goal.returns-clause-syncs
returns-clause-syncs g c = (
  place_of (g.R.Output.state) (g.K.Keeping.short) c.loop-turn.self (g.Q.ServerSource.state c.loop-turn.source),
  c.loop-turn.invariant.syncs,
  inl refl,
)

pub returns-in_default-clause-watched : goal.returns-in_default-clause-watched
returns-in_default-clause-watched g c = ([], refl, refl)

pub returns-in-End-clause-watched : goal.returns-in-End-clause-watched
returns-in-End-clause-watched g c =
    let so = c.loop-turn.invariant.watched in
    (c.view.result ∷ so.0, (c.loop-turn.watch, so.1, c.see.ensures), c.view.ensures)

pub returns-clause-watched : goal.returns-clause-watched
returns-clause-watched g c =
    watched _ _ _ _ _ _ _ (λ none. omega (arith, none)) c.loop-turn.invariant.watched
