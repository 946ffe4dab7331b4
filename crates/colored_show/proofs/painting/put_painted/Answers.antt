use Rattle.std.proofs.Common.{◌++◌, ◌∙◌, List, ℕ, append_assoc, subst, sym}
use Rattle.colored_show.specs.Painting.{IsPainted, painted_line}
use Rattle.colored_show.proofs.Painted.{one_line}
use Rattle.colored_show.proofs.painting.put_painted.Goals as goal

pub loop-line-preserved : goal.loop-line-preserved
loop-line-preserved c =
    let (done, is, goes) = c.loop-line.invariant in
    let s = c.args.severity in
    let line = c.in-Some.line.now in (
      done ++ painted_line s line,
      c.in_ok-put_line.ensures.ok ∙ rw is (append_assoc c.args.out.now.items done (painted_line s line)),
      λ painted p. subst (λ (x : List ℕ). IsPainted s c.args.text.now x) (sym (append_assoc done (painted_line s line) painted))
          (goes (painted_line s line ++ painted)
          (one_line s line c.in-Some.behind.now c.loop-line.rest.now painted c.in-Some.ensures.0 c.in-Some.ensures.1 p)),
    )
