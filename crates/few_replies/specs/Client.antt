-- What a client of both speaks where it sees mails as they are: by the contents of a reply it tells whether it is the last.
use Rattle.std.specs.Prelude.{◌≡◌, ◌&&◌, Bool, if◌then◌else◌, Option, None, Some, option_map, List, [], ◌∷◌, ⊤}
use Rattle.slave_parts.specs.of_exchange_model.Exchange.{Speech, plain}
use Rattle.slave_parts.specs.of_serving_model.Tagged.{Tagged, Asked, untag, is_own, ends_marked, asked_valid, asked_handed}
use Rattle.slave_parts.specs.of_serving_model.Passing.{ends_told}

-- the mails of a service, or the one that is passed on
abbrev pub mails_planned : {M Q R : Type 0} → Speech M Q R → Asked M Q → List M → List M
mails_planned x (Asked.Script q) hs = x.planned q hs
mails_planned x (Asked.Passed m answers) hs = m ∷ []

-- one that is passed on ends with a reply behind which none goes on
abbrev pub mails_end : {M Q R : Type 0} → Speech M Q R → (M → Bool) → Asked M Q → List M → Option (Option R)
mails_end x more (Asked.Script q) hs = option_map (λ r. Some r) (x.ends q hs)
mails_end x more (Asked.Passed m answers) hs = if answers && ends_told more hs then Some None else None

-- THE CLIENT, of mails alone
abbrev pub asked_speech : {M Q R : Type 0} → Speech M Q R → (M → Bool) → Speech M (Asked M Q) (Option R)
asked_speech x more = record { emission = x.emission; valid = asked_valid x; planned = mails_planned x; ends = mails_end x more; handed = asked_handed x }

-- of each of these mails its contents tell whether it replies to nothing
abbrev pub ByContents : {M Q : Type 0} → (M → Bool) → List (Tagged M Q) → Type 0
ByContents emission [] = ⊤
ByContents emission (t ∷ ts) = (is_own t.meant ≡ emission t.mail) × ByContents emission ts

-- and of the replies whether the last of them is there, where a mail was passed on that is answered
abbrev pub MarksTold : {M Q : Type 0} → (M → Bool) → Asked M Q → List (Tagged M Q) → Type 0
MarksTold more (Asked.Script q) ts = ⊤
MarksTold more (Asked.Passed m answers) ts = ends_marked (plain (λ t. is_own t.meant) ts) ≡ ends_told more (untag (plain (λ t. is_own t.meant) ts))
