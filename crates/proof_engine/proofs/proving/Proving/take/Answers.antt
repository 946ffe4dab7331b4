use Rattle.std.proofs.Common.{◌+◌, ◌^◌, ◌<◌, ◌++◌, ◌∷◌, [], List, length, subst}
use Rattle.std.specs.Prelude.{OnOk}
use Rattle.archive_text.specs.Entries.{Entry}
use Rattle.archive_text.specs.Text.{IsArchive}
use Rattle.archive_text.specs.declared.limits.TheConstants.{ENTRY_MAX}
use Rattle.archive_proof.specs.Proving.{IsProving}
use Rattle.proof_engine.proofs.proving.Proving.take.Goals as goal

pub returns-clause-taken : goal.returns-clause-taken
returns-clause-taken c =
    subst (λ (e : Entry). OnOk c.push.result ((rs xs : List Entry) → length xs + 1 < 2 ^ 64
    → IsArchive ENTRY_MAX (xs ++ e ∷ []) → IsProving rs c.args.self.now.prover xs
    → IsProving rs c.push.new.self (xs ++ e ∷ []))) c.entry-entry.ensures c.push.ensures
