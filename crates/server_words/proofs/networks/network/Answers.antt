use Rattle.std.proofs.Common.{Err, Ok}
use Rattle.server_words.proofs.NetworkLemmas.{network_read}
use Rattle.server_words.proofs.networks.network.Goals as goal

pub returns-in-Ok : goal.returns-in-Ok
returns-in-Ok c = network_read c.args.text.now (Ok c.in-Ok.network) c.in-Ok.ensures.value

pub returns-in-Err-HostBits : goal.returns-in-Err-HostBits
returns-in-Err-HostBits c = network_read c.args.text.now (Err c.in-Err-HostBits.field-0) c.in-Err-HostBits.ensures.value

pub returns-in-Err-Address : goal.returns-in-Err-Address
returns-in-Err-Address c = network_read c.args.text.now (Err c.in-Err-Address.field-0) c.in-Err-Address.ensures.value
