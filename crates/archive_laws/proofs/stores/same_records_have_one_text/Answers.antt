use Rattle.std.proofs.Common.{ap, arith}
use Rattle.archive_text.specs.Text.{text_of}
use Rattle.archive_text.specs.declared.limits.TheConstants.{ENTRY_MAX}
use Rattle.archive_laws.proofs.Held.{held_alike, texts_hold_alike, written_alike}
use Rattle.archive_laws.proofs.stores.same_records_have_one_text.Goals as goal

pub returns-clause-entries : goal.returns-clause-entries
returns-clause-entries g c same = held_alike ENTRY_MAX ENTRY_MAX _ _ (g.S.Store.archive c.args.one.now)
    (g.T.Store.archive c.args.two.now) same

pub returns-clause-texts : goal.returns-clause-texts
returns-clause-texts g c same = ap text_of
    (held_alike ENTRY_MAX ENTRY_MAX _ _ (g.S.Store.archive c.args.one.now) (g.T.Store.archive c.args.two.now) same)

pub returns-clause-written : goal.returns-clause-written
returns-clause-written g c same before first second one two =
    written_alike _ _ before first second (held_alike ENTRY_MAX ENTRY_MAX _ _ (g.S.Store.archive c.args.one.now)
    (g.T.Store.archive c.args.two.now) same) one two

pub returns-clause-records : goal.returns-clause-records
returns-clause-records g c same =
    texts_hold_alike ENTRY_MAX ENTRY_MAX _ _ (omega arith) (omega arith) (g.S.Store.archive c.args.one.now)
    (g.T.Store.archive c.args.two.now) same
