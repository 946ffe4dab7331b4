use Rattle.std.proofs.Common.{ℕ, List, ◌∷◌, ◌++◌}
use Rattle.std.specs.Prelude.{decimal}
use Rattle.std.proofs.lemmas.Result.{err_from_is_err_and}
use Rattle.octet_devices.proofs.Putting.{has_put_then, put_fails_before, put_fails_then, puts_then}
use Rattle.archive_digest.specs.Putting.{line_end}
use Rattle.archive_digest.proofs.Lines.{is_line}
use Rattle.archive_digest.proofs.line.put_line.Goals as goal

pub returns-in_err-put : goal.returns-in_err-put
returns-in_err-put g c =
    let p = err_from_is_err_and c.from_residual.result c.from_residual.ensures.1 in
    let last : List ℕ = 32 ∷ c.hexadecimal-hexadecimal.result ++ line_end c.root-root.result in
    rw (p.1, p.2) (record {
      text = c.args.name.now ++ 32 ∷ decimal c.args.sum.now.records ++ 32 ∷ decimal c.args.sum.now.octets ++ last;
      puts = put_fails_before _ _ _ _ last _ (put_fails_before _ _ _ _ (32 ∷ decimal c.args.sum.now.octets) _
          (put_fails_before _ _ _ c.args.name.now (32 ∷ decimal c.args.sum.now.records) _ c.in_err-put.ensures.puts));
      line = is_line c.args.name.now c.args.sum.now c.hexadecimal-hexadecimal.result c.root-root.result
          c.hexadecimal-hexadecimal.ensures c.root-root.ensures;
    })

pub returns-in_err-put_number : goal.returns-in_err-put_number
returns-in_err-put_number g c =
    let p = err_from_is_err_and c.from_residual-in_err-put_number.result c.from_residual-in_err-put_number.ensures.1 in
    let last : List ℕ = 32 ∷ c.hexadecimal-hexadecimal.result ++ line_end c.root-root.result in
    rw (p.1, p.2) (record {
      text = c.args.name.now ++ 32 ∷ decimal c.args.sum.now.records ++ 32 ∷ decimal c.args.sum.now.octets ++ last;
      puts = put_fails_before _ _ _ _ last _ (put_fails_before _ _ _ _ (32 ∷ decimal c.args.sum.now.octets) _
          (put_fails_then _ _ _ _ _ c.args.name.now (32 ∷ decimal c.args.sum.now.records) _ c.in_ok-put.ensures.puts
          c.in_err-put_number.ensures));
      line = is_line c.args.name.now c.args.sum.now c.hexadecimal-hexadecimal.result c.root-root.result
          c.hexadecimal-hexadecimal.ensures c.root-root.ensures;
    })

pub returns-in_err-put_number-2 : goal.returns-in_err-put_number-2
returns-in_err-put_number-2 g c =
    let p = err_from_is_err_and c.from_residual-in_err-put_number-2.result c.from_residual-in_err-put_number-2.ensures.1
    in
    let last : List ℕ = 32 ∷ c.hexadecimal-hexadecimal.result ++ line_end c.root-root.result in
    rw (p.1, p.2) (record {
      text = c.args.name.now ++ 32 ∷ decimal c.args.sum.now.records ++ 32 ∷ decimal c.args.sum.now.octets ++ last;
      puts = put_fails_before _ _ _ _ last _ (put_fails_then _ _ _ _ _
          (c.args.name.now ++ 32 ∷ decimal c.args.sum.now.records) (32 ∷ decimal c.args.sum.now.octets) _
          (has_put_then _ _ _ _ _ _ c.args.name.now (32 ∷ decimal c.args.sum.now.records) c.in_ok-put.ensures.puts
          c.in_ok-put_number.ensures) c.in_err-put_number-2.ensures);
      line = is_line c.args.name.now c.args.sum.now c.hexadecimal-hexadecimal.result c.root-root.result
          c.hexadecimal-hexadecimal.ensures c.root-root.ensures;
    })

pub returns : goal.returns
returns g c =
    let last : List ℕ = 32 ∷ c.hexadecimal-hexadecimal.result ++ line_end c.root-root.result in
    record {
      text = c.args.name.now ++ 32 ∷ decimal c.args.sum.now.records ++ 32 ∷ decimal c.args.sum.now.octets ++ last;
      puts = puts_then _ _ _ _ _ _ _
          (c.args.name.now ++ 32 ∷ decimal c.args.sum.now.records ++ 32 ∷ decimal c.args.sum.now.octets) last
          (has_put_then _ _ _ _ _ _ (c.args.name.now ++ 32 ∷ decimal c.args.sum.now.records)
          (32 ∷ decimal c.args.sum.now.octets)
          (has_put_then _ _ _ _ _ _ c.args.name.now (32 ∷ decimal c.args.sum.now.records) c.in_ok-put.ensures.puts
          c.in_ok-put_number.ensures) c.in_ok-put_number-2.ensures) c.put_hashes.ensures;
      line = is_line c.args.name.now c.args.sum.now c.hexadecimal-hexadecimal.result c.root-root.result
          c.hexadecimal-hexadecimal.ensures c.root-root.ensures;
    }
