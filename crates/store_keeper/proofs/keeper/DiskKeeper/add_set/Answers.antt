use Rattle.std.proofs.Common.{arith, ◌≡◌, ◌++◌, ◌∙◌, [], List, refl, sym, subst}
use Rattle.archive_pages.specs.Paged.{entries_from, entries_in}
use Rattle.archive_pages.specs.declared.paged.PagedArchive.{PagedArchive}
use Rattle.archive_text.specs.Entries.{Entry}
use Rattle.store_keeper.specs.Keeping.{IsKept, IsPlace, TakesFront, with_held}
use Rattle.store_keeper.specs.Spares.{pages_of}
use Rattle.store_keeper.proofs.Taking.{all_front, among_front, kept_both, none, parts_join}
use Rattle.store_keeper.proofs.keeper.DiskKeeper.add_set.Goals as goal

pub loop-round-init : goal.loop-round-init
loop-round-init g c = record {
  same = refl;
  front = [];
  parts = sym (c.first-place.ensures (pages_of c.args.fresh.now));
  kept = λ k on tells. none k c.args.self.now.store (g.D.Disk.state c.args.self.now.disk.disk) (on tells);
  syncs = omega arith;
}

pub add_from-requires : goal.add_from-requires
add_from-requires g c =
    let i = c.loop-round.invariant in
    subst (λ (p : PagedArchive). IsPlace p c.loop-round.place) (sym (c.pages.ensures ∙ i.same)) (i.front, i.parts)

pub loop-round-preserved : goal.loop-round-preserved
loop-round-preserved g c =
    let i = c.loop-round.invariant in
    let more = subst (λ (p : PagedArchive). TakesFront c.loop-round.self.store c.add_from.new.store
    (entries_from p c.loop-round.place) (entries_from p c.add_from.new.place)) (c.pages.ensures ∙ i.same)
    c.add_from.ensures.front in
    record {
      same = c.give_up.ensures.pages ∙ i.same;
      front = i.front ++ more.front;
      parts = parts_join _ i.front _ more.front _ i.parts more.parts;
      kept = λ k on. c.free_memory.ensures.kept (with_held k (i.front ++ more.front)) (λ tells.
          kept_both k c.add_from.new.store (g.D.Disk.state c.loop-round.self.disk.disk) i.front more.front
          (more.takes (g.D.Disk.state c.loop-round.self.disk.disk) (with_held k i.front) (i.kept k on tells)));
      syncs = omega (arith, i.syncs, c.free_memory.ensures.syncs);
    }

pub returns-in-Ok-clause-same : goal.returns-in-Ok-clause-same
returns-in-Ok-clause-same g c = c.loop-round.invariant.same

pub returns-in-Ok-clause-all : goal.returns-in-Ok-clause-all
returns-in-Ok-clause-all g c k on tells =
    let i = c.loop-round.invariant in
    let more = subst (λ (p : PagedArchive). TakesFront c.loop-round.self.store c.add_from.new.store
    (entries_from p c.loop-round.place) (entries_from p c.add_from.new.place)) (c.pages.ensures ∙ i.same)
    c.add_from.ensures.front in
    let left = subst (λ (p : PagedArchive). entries_from p c.add_from.new.place ≡ []) (c.pages.ensures ∙ i.same)
    c.in-Ok.ensures.all in
    subst (λ (l : List Entry). IsKept c.add_from.new.store (g.D.Disk.state c.loop-round.self.disk.disk) (with_held k l))
    (all_front (entries_in (pages_of c.args.fresh.now)) (i.front ++ more.front) _
    (parts_join _ i.front _ more.front _ i.parts more.parts) left)
    (kept_both k c.add_from.new.store (g.D.Disk.state c.loop-round.self.disk.disk) i.front more.front
    (more.takes (g.D.Disk.state c.loop-round.self.disk.disk) (with_held k i.front) (i.kept k on tells)))

pub returns-in-Ok-clause-some : goal.returns-in-Ok-clause-some
returns-in-Ok-clause-some g c k on =
    let i = c.loop-round.invariant in
    let more = subst (λ (p : PagedArchive). TakesFront c.loop-round.self.store c.add_from.new.store
    (entries_from p c.loop-round.place) (entries_from p c.add_from.new.place)) (c.pages.ensures ∙ i.same)
    c.add_from.ensures.front in (
      i.front ++ more.front,
      among_front _ (i.front ++ more.front) _ (parts_join _ i.front _ more.front _ i.parts more.parts),
      λ tells. kept_both k c.add_from.new.store (g.D.Disk.state c.loop-round.self.disk.disk) i.front more.front
          (more.takes (g.D.Disk.state c.loop-round.self.disk.disk) (with_held k i.front) (i.kept k on tells)),
    )

pub returns-in_err-free_memory-in-Err-Memory-clause-same : goal.returns-in_err-free_memory-in-Err-Memory-clause-same
returns-in_err-free_memory-in-Err-Memory-clause-same g c = c.give_up.ensures.pages ∙ c.loop-round.invariant.same

pub returns-in_err-free_memory-in-Err-Memory-clause-some : goal.returns-in_err-free_memory-in-Err-Memory-clause-some
returns-in_err-free_memory-in-Err-Memory-clause-some g c k on =
    let i = c.loop-round.invariant in
    let more = subst (λ (p : PagedArchive). TakesFront c.loop-round.self.store c.add_from.new.store
    (entries_from p c.loop-round.place) (entries_from p c.add_from.new.place)) (c.pages.ensures ∙ i.same)
    c.add_from.ensures.front in (
      i.front ++ more.front,
      among_front _ (i.front ++ more.front) _ (parts_join _ i.front _ more.front _ i.parts more.parts),
      c.free_memory.ensures.kept (with_held k (i.front ++ more.front)) (λ tells.
          kept_both k c.add_from.new.store (g.D.Disk.state c.loop-round.self.disk.disk) i.front more.front
          (more.takes (g.D.Disk.state c.loop-round.self.disk.disk) (with_held k i.front) (i.kept k on tells))),
    )

pub returns-in-Err : goal.returns-in-Err
returns-in-Err g c =
    let i = c.loop-round.invariant in
    let more = subst (λ (p : PagedArchive). TakesFront c.loop-round.self.store c.add_from.new.store
    (entries_from p c.loop-round.place) (entries_from p c.add_from.new.place)) (c.pages.ensures ∙ i.same)
    c.add_from.ensures.front in
    record {
      same = i.same;
      all = tt;
      some = λ k on. (
        i.front ++ more.front,
        among_front _ (i.front ++ more.front) _ (parts_join _ i.front _ more.front _ i.parts more.parts),
        λ tells. kept_both k c.add_from.new.store (g.D.Disk.state c.loop-round.self.disk.disk) i.front more.front
            (more.takes (g.D.Disk.state c.loop-round.self.disk.disk) (with_held k i.front) (i.kept k on tells)),
      );
      syncs = omega (arith, i.syncs);
    }

pub returns-clause-same : goal.returns-clause-same
returns-clause-same g c = c.loop-round.invariant.same

pub returns-clause-some : goal.returns-clause-some
returns-clause-some g c k on =
    let i = c.loop-round.invariant in
    (i.front, among_front _ i.front _ i.parts, i.kept k on)
