use Rattle.std.proofs.Common.{arith, refl}
use Rattle.record_json.proofs.Chunks.{encodes_all, encodes_end, encodes_more}
use Rattle.record_json.proofs.encoded.put_encoded.Goals as goal

pub loop-rest-init : goal.loop-rest-init
loop-rest-init c = encodes_all c.args.octets.now c.args.out.now.items

pub loop-rest-preserved : goal.loop-rest-preserved
loop-rest-preserved c =
    encodes_more c.args.octets.now c.loop-rest.rest.now c.split_at.result.0.now c.split_at.result.1.now
    c.args.out.now.items c.loop-rest.out.items c.put_chunk.new.out.items 768 refl
    (omega (arith, c.loop-rest-test.true)) c.split_at.ensures.front c.split_at.ensures.back c.loop-rest.invariant
    c.in_ok-put_chunk.ensures

pub returns : goal.returns
returns c =
    encodes_end c.args.octets.now c.loop-rest.rest.now c.args.out.now.items c.loop-rest.out.items
    c.put_chunk-2.new.out.items c.put_chunk-2.result c.loop-rest.invariant c.put_chunk-2.ensures
