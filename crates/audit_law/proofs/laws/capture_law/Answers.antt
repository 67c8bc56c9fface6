use Rattle.audit_law.proofs.Captures.{stations_are, opening_obeys, opening_once, opening_mails}
use Rattle.audit_law.proofs.laws.capture_law.Goals as goal

pub returns-clause-obeys : goal.returns-clause-obeys
returns-clause-obeys c = λ file capture stations station out_len in_len before during d yes is. opening_obeys file capture stations yes station out_len in_len before during d is

pub returns-clause-once : goal.returns-clause-once
returns-clause-once c = λ file capture stations station out_len in_len before during d yes is steps p. opening_once file capture stations yes station out_len in_len before during d is steps p

pub returns-clause-mails : goal.returns-clause-mails
returns-clause-mails c = λ file capture stations station out_len in_len before during d yes is. opening_mails file capture stations yes station out_len in_len before during d is

pub returns-clause-stations : goal.returns-clause-stations
returns-clause-stations c = λ file capture stations yes. stations_are file capture stations yes
