use Rattle.std.proofs.Common.{inr, refl}
use Rattle.commands.proofs.RunLemmas.{frames_read}
use Rattle.commands.proofs.running.run_request.Goals as goal

pub returns-in-Frames-clause-ran : goal.returns-in-Frames-clause-ran
returns-in-Frames-clause-ran g c =
    rw c.in-Frames.is (c.run_on_frames.ensures (g.F.Files.stored c.args.files.now))

pub returns-in-Frames-clause-unread : goal.returns-in-Frames-clause-unread
returns-in-Frames-clause-unread g c = λ no. absurd (no (rw c.in-Frames.is (frames_read c.in-Frames.frames)))

pub returns-in-Files-clause-ran : goal.returns-in-Files-clause-ran
returns-in-Files-clause-ran g c =
    rw c.in-Files.is (c.run_on_files.ensures (g.R.Input.state c.args.input.now))

pub returns-in-Select-clause-ran : goal.returns-in-Select-clause-ran
returns-in-Select-clause-ran g c =
    rw c.in-Select.is (inr (c.in-Select.conditions, refl, c.select_archive.ensures))

pub returns-in-Select-clause-unread : goal.returns-in-Select-clause-unread
returns-in-Select-clause-unread g c = λ no. absurd (no (rw c.in-Select.is tt))

pub returns-in-Digest-clause-ran : goal.returns-in-Digest-clause-ran
returns-in-Digest-clause-ran g c = rw c.in-Digest.is c.run_digest.ensures

pub returns-in-Count-clause-ran : goal.returns-in-Count-clause-ran
returns-in-Count-clause-ran g c =
    rw c.in-Count.is (inr (c.in-Count.options, refl, refl, refl, c.count_archive.ensures))

pub returns-in-Count-clause-unread : goal.returns-in-Count-clause-unread
returns-in-Count-clause-unread g c = λ no. absurd (no (rw c.in-Count.is tt))

pub returns-in-Prove-clause-ran : goal.returns-in-Prove-clause-ran
returns-in-Prove-clause-ran g c = rw c.in-Prove.is c.prove_file.ensures

pub returns-in-Prove-clause-unread : goal.returns-in-Prove-clause-unread
returns-in-Prove-clause-unread g c = λ no. absurd (no (rw c.in-Prove.is tt))

pub returns-in-Confirm-clause-ran : goal.returns-in-Confirm-clause-ran
returns-in-Confirm-clause-ran g c = rw c.in-Confirm.is c.confirm_file.ensures

pub returns-in-Confirm-clause-unread : goal.returns-in-Confirm-clause-unread
returns-in-Confirm-clause-unread g c = λ no. absurd (no (rw c.in-Confirm.is tt))

pub returns-in-Root-clause-ran : goal.returns-in-Root-clause-ran
returns-in-Root-clause-ran g c = rw c.in-Root.is c.root_archive.ensures

pub returns-in-Root-clause-unread : goal.returns-in-Root-clause-unread
returns-in-Root-clause-unread g c = λ no. absurd (no (rw c.in-Root.is tt))

pub returns-in-Digest-clause-unread : goal.returns-in-Digest-clause-unread
returns-in-Digest-clause-unread g c = λ no. absurd (no (rw c.in-Digest.is tt))

pub returns-in-Send-clause-ran : goal.returns-in-Send-clause-ran
returns-in-Send-clause-ran g c = rw c.in-Send.is c.send_text.ensures

pub returns-in-SpillArchive-clause-ran : goal.returns-in-SpillArchive-clause-ran
returns-in-SpillArchive-clause-ran g c = rw c.in-SpillArchive.is (inr (refl, c.report.ensures.reports))

pub returns-in-Read-clause-ran : goal.returns-in-Read-clause-ran
returns-in-Read-clause-ran g c = rw c.in-Read.is (inr (refl, c.report-in-Read.ensures.reports))

pub returns-in-Verify-clause-ran : goal.returns-in-Verify-clause-ran
returns-in-Verify-clause-ran g c = rw c.in-Verify.is (inr (refl, c.report-in-Verify.ensures.reports))

pub returns-in-Stat-clause-ran : goal.returns-in-Stat-clause-ran
returns-in-Stat-clause-ran g c = rw c.in-Stat.is (inr (refl, c.report-in-Stat.ensures.reports))

pub returns-in-Compact-clause-ran : goal.returns-in-Compact-clause-ran
returns-in-Compact-clause-ran g c = rw c.in-Compact.is (inr (refl, c.report-in-Compact.ensures.reports))

pub returns-in-Collect-clause-ran : goal.returns-in-Collect-clause-ran
returns-in-Collect-clause-ran g c = rw c.in-Collect.is (inr (refl, c.report-in-Collect.ensures.reports))

pub returns-clause-ran : goal.returns-clause-ran
returns-clause-ran g c = rw c.in-Serve.is (inr (refl, c.report-in-Serve.ensures.reports))
