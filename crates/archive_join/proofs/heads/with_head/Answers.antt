use Rattle.std.proofs.Common.{rules, ◌-◌, ◌^◌, pos, negsuc, ◌<ℤ◌, ◌≤ℤ◌, SFits, w64, get_or, length, take, ap, subst, arith}
use Rattle.std.proofs.lemmas.Int.{ints}
use Rattle.std.proofs.lemmas.List.{length-map}
use Rattle.archive_join.specs.Heads.{IsFoundIn, key_of}
use Rattle.archive_join.proofs.Keys.{found_above}
use Rattle.archive_join.proofs.heads.with_head.Goals as goal

pub bounds-keys-at : goal.bounds-keys-at
bounds-keys-at c = omega (arith, c.requires.at, ap length c.requires.keys, length-map c.args.heads.now key_of)

pub bounds-keys-before : goal.bounds-keys-before
bounds-keys-before c =
    let f = subst (IsFoundIn c.args.heads.now (take c.args.at c.args.heads.now)) c.in-Some.is c.requires.found in
    omega (arith, f.least.within, ap length c.requires.keys, length-map c.args.heads.now key_of)

pub returns-then-keys-at : goal.returns-then-keys-at
returns-then-keys-at c =
    let ks = c.args.keys.now in
    let at = c.args.at in
    let before = c.in-Some.before.at in
    let f = subst (IsFoundIn c.args.heads.now (take at c.args.heads.now)) c.in-Some.is c.requires.found in
    let a : SFits w64 (get_or ks at (pos 0)) = search rules in
    let b : SFits w64 (get_or ks before (pos 0)) = search rules in
    let low : negsuc (2 ^ 63 - 1) ≤ℤ get_or ks before (pos 0) = omega (arith, ints) in
    let above : get_or ks before (pos 0) <ℤ get_or ks at (pos 0) = omega (arith, ints, c.if-keys-at.true) in
    found_above c.args.heads.now ks at c.in-Some.before c.requires.keys c.requires.at low above f
