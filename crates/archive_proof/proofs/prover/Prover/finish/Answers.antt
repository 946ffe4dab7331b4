use Rattle.std.proofs.Common.{◌<◌, ◌^◌, ◌++◌, ◌∙◌, List, ℕ, length, refl, sym, ap, subst, arith}
use Rattle.archive_text.specs.Entries.{Entry}
use Rattle.archive_tree.proofs.Archives.{count_of_texts}
use Rattle.archive_tree.specs.Archives.{IsRootOf, texts_of}
use Rattle.archive_tree.specs.declared.audit_path.AuditPath.{AuditPath}
use Rattle.archive_proof.specs.Making.{made_texts}
use Rattle.archive_proof.specs.Proving.{AreProofsOf}
use Rattle.archive_proof.specs.declared.search.Search.{Search}
use Rattle.archive_proof.proofs.Endings.{all_end}
use Rattle.archive_proof.proofs.Makings.{placed_same, written_back}
use Rattle.archive_proof.proofs.Readable.{text_of_proofs}
use Rattle.archive_proof.proofs.prover.Prover.finish.Goals as goal

pub returns-clause-text : goal.returns-clause-text
returns-clause-text c =
    λ rs xs room h.
    let fits : length (texts_of xs) < 2 ^ 64 = omega (arith, count_of_texts xs, room) in
    let is : IsRootOf c.finish-head.result xs = c.finish-head.ensures.taken (texts_of xs) fits h.taken in
    let made = all_end c.finish-head.result c.args.self.tree xs room is h.archive.ascending h.archive.entries h.archive.fits
    c.args.self.asked.items c.args.self.searches.items c.as_mut_slice.result.now c.finish-head.new.paths
    c.finish-head.ensures.followed c.finish-head.auto.paths
    (placed_same c.args.self.tree xs xs _ _ _ _ _ _ refl refl (sym c.as_mut_slice.ensures.value) h.placed) in
    let back = written_back _ _ c.finish-head.new.paths (c.finish-head.auto.paths ∙ c.as_mut_slice.ensures.len)
    (ap length (sym c.as_mut_slice.ensures.value) ∙ c.as_mut_slice.ensures.len) in
    text_of_proofs c.finish-head.result xs rs made.0 c.put_all.new.text.items
    (subst (λ (l : List Entry). AreProofsOf c.finish-head.result xs l made.0) h.asked made.1) made.2
    (c.in_ok-put_all.ensures
    ∙ ap (λ (l : List ℕ). l ++ made_texts c.as_slice.result.now c.as_slice-2.result.now) c.new-text.ensures.items
    ∙ ap (λ (l : List Search). made_texts l c.as_slice-2.result.now) c.as_slice.ensures.value
    ∙ ap (λ (l : List AuditPath). made_texts c.args.self.searches.items l) (c.as_slice-2.ensures.value ∙ back) ∙ made.3)
