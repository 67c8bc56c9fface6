-- What the mails taken have made of a server's application.
use Rattle.std.specs.Prelude.{◌≡◌, List, [], ◌∷◌, ⊤}
use Rattle.link_model.specs.Slave.{Server}
use Rattle.link_model.specs.Link.{Link, Event}

-- an application behind these mails, in order
abbrev pub carried : {A B : Type 0} → (A → B → A) → A → List B → A
carried carry a [] = a
carried carry a (body ∷ more) = carried carry (carry a body) more

-- each mail taken makes of the application what `carry` says, and a mail given leaves it
pub record Carries {A B S : Type 0} (v : Server B S) (app : S → A) (carry : A → B → A) : Type 0 where
  pub takes : (s : S) (body : B) → app (v.take s body) ≡ carry (app s) body
  pub gives : (s : S) → app (v.rest s) ≡ app s

-- a change of the server by itself leaves the application
abbrev pub Leaves : {A B S : Type 0} → (S → A) → Event B S → Type 0
Leaves app (Event.Hold body) = ⊤
Leaves app (Event.Out fate) = ⊤
Leaves app (Event.In fate) = ⊤
Leaves app Event.Pdi = ⊤
Leaves {S = S} app (Event.Change f) = (s : S) → app (f s) ≡ app s

-- each event of a list does
abbrev pub AllLeave : {A B S : Type 0} → (S → A) → List (Event B S) → Type 0
AllLeave app [] = ⊤
AllLeave app (e ∷ es) = Leaves app e × AllLeave app es

-- the node's application is the first one behind the mails taken
abbrev pub IsCarried : {A B S : Type 0} → (S → A) → (A → B → A) → A → Link B S → Type 0
IsCarried app carry a w = app w.node.server ≡ carried carry a w.taken
