use Rattle.socket_source.proofs.sockets.Sockets.open.Goals as goal

pub returns-in-Err-open_listeners-clause-told : goal.returns-in-Err-open_listeners-clause-told
returns-in-Err-open_listeners-clause-told g c = c.in-Err-open_listeners.ensures.told c.args.options.until_eof
