-- What the fields of a sender hold.
use Rattle.syslog_sender.specs.Senders.{SenderParts}
use Rattle.syslog_sender.specs.declared.sender.Sender.TheInside.{Inside}

abbrev pub sender_of : Inside → SenderParts
sender_of s = record {
  hostname = s.hostname;
  app_name = s.app_name;
  proc_id = s.proc_id;
  facility = s.facility;
  mask = s.mask;
}
