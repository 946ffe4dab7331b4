use Rattle.syslog_legacy.proofs.FrameReadings.{one_reading}
use Rattle.syslog_collect.proofs.law.frames_have_one_reading.Goals as goal

pub returns-clause-one : goal.returns-clause-one
returns-clause-one c way r q f a b = one_reading way f r q a b

pub returns-clause-spelled : goal.returns-clause-spelled
returns-clause-spelled c r f = (λ h. h, λ h. h)

pub returns-clause-never_legacy : goal.returns-clause-never_legacy
returns-clause-never_legacy c f = λ h. h

pub returns-clause-never_refused : goal.returns-clause-never_refused
returns-clause-never_refused c offset f = λ h. h
