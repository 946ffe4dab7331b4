use Rattle.std.proofs.Common.{◌<◌, ◌^◌, inl, inr, List, ℕ, ◌∙◌, arith, subst}
use Rattle.std.proofs.lemmas.Result.{on_ok_weaker}
use Rattle.std.specs.Prelude.{Option, Some, None}
use Rattle.record_store.specs.Names.{IsNewest}
use Rattle.record_store.proofs.Anew.{renewed_before}
use Rattle.record_store.proofs.Covering.{unchanged_keeps}
use Rattle.record_store.proofs.Newly.{newest_of, newest_still, none_newest}
use Rattle.record_store.proofs.renewing.renew.Goals as goal

pub returns-in-Err-clause-any_moment : goal.returns-in-Err-clause-any_moment
returns-in-Err-clause-any_moment g c tells sound committed received keeps =
    unchanged_keeps (g.D.Disk.state c.args.disk.now) (g.D.Disk.state c.names.new.self) (c.names.ensures.done tells)
    committed received keeps

pub returns-in-Some-clause-renewed : goal.returns-in-Some-clause-renewed
returns-in-Some-clause-renewed g c =
    let zero = g.D.Disk.state c.args.disk.now in
    let one = g.D.Disk.state c.names.new.self in
    let two = g.D.Disk.state c.renew_journal.new.disk in
    let number = c.in-Some.number in
    let small : number < 2 ^ 64 = omega arith in
    let newest = subst (λ (l : List (List ℕ)). IsNewest l (Some number)) c.deref.ensures.value
    (subst (λ (o : Option ℕ). IsNewest c.deref.result.now o) c.in-Some.is c.newest.ensures) in
    on_ok_weaker c.renew_journal.result (λ renewed tells sound.
    let told = c.renew_journal.ensures.told tells in
    let same = c.names.ensures.done told in
    let found = newest_of zero c.in-Ok.names.items sound (c.in-Ok.ensures.names told) number small newest in
    inl (
      number,
      found.0,
      renewed_before zero one two number found.0 found.1
          (renewed tells (same.lost ∙ sound) found.0 (newest_still zero one same number found.0 found.1)),
    ))
    c.renew_journal.ensures.renewed

pub returns-in-Some-clause-any_moment : goal.returns-in-Some-clause-any_moment
returns-in-Some-clause-any_moment g c tells sound committed received keeps =
    let zero = g.D.Disk.state c.args.disk.now in
    let one = g.D.Disk.state c.names.new.self in
    let number = c.in-Some.number in
    let small : number < 2 ^ 64 = omega arith in
    let newest = subst (λ (l : List (List ℕ)). IsNewest l (Some number)) c.deref.ensures.value
    (subst (λ (o : Option ℕ). IsNewest c.deref.result.now o) c.in-Some.is c.newest.ensures) in
    let told = c.renew_journal.ensures.told tells in
    let same = c.names.ensures.done told in
    let found = newest_of zero c.in-Ok.names.items sound (c.in-Ok.ensures.names told) number small newest in
    c.renew_journal.ensures.any_moment tells (same.lost ∙ sound) found.0
    (newest_still zero one same number found.0 found.1) committed received
    (unchanged_keeps zero one same committed received keeps)

pub returns-clause-renewed : goal.returns-clause-renewed
returns-clause-renewed g c tells sound =
    let newest = subst (λ (l : List (List ℕ)). IsNewest l None) c.deref.ensures.value
    (subst (λ (o : Option ℕ). IsNewest c.deref.result.now o) c.in-None.is c.newest.ensures) in
    inr (none_newest (g.D.Disk.state c.args.disk.now) c.in-Ok.names.items sound (c.in-Ok.ensures.names tells) newest)

pub returns-clause-any_moment : goal.returns-clause-any_moment
returns-clause-any_moment g c tells sound committed received keeps =
    unchanged_keeps (g.D.Disk.state c.args.disk.now) (g.D.Disk.state c.names.new.self) (c.names.ensures.done tells)
    committed received keeps
