use Rattle.proof_engine.proofs.root.root_stream.Goals as goal

pub returns-in-Ok-put_head-clause-outcome : goal.returns-in-Ok-put_head-clause-outcome
returns-in-Ok-put_head-clause-outcome g c =
    let w = c.in-Ok.ensures.outcome in
    record {
      xs = w.xs;
      head = c.in-Ok.head;
      whole = w.whole;
      root = w.root;
      written = c.in-Ok-put_head.ensures.octets;
    }

pub returns-in-Err-put_head-clause-outcome : goal.returns-in-Err-put_head-clause-outcome
returns-in-Err-put_head-clause-outcome g c =
    let w = c.in-Ok.ensures.outcome in
    record {
      xs = w.xs;
      head = c.in-Ok.head;
      whole = w.whole;
      root = w.root;
      some_left = c.in-Err-put_head.ensures.some_left;
      written = c.in-Err-put_head.ensures.octets;
    }
