-- WHAT THE SERVER OF A SLAVE GIVES for each mail that was passed on to it in a serving, all along its life.
use Rattle.std.specs.Prelude.{◌≡◌, ℕ, Bool, Option, List, [], ◌∷◌, ◌++◌, map, ⊤}
use Rattle.served_places.specs.of_exchange_model.Rows.{Row}
use Rattle.served_places.specs.of_life_model.Lives.{Era, Life, Stand}
use Rattle.served_places.specs.of_link_mails.Body.{Body}
use Rattle.run_work.specs.of_mailbox_mail.declared.mail.Mail.{Mail}
use Rattle.run_work.specs.of_master_duty.Reply.{Reply}
use Rattle.run_work.specs.of_master_hand.Spoken.{Asked, drive, file, net, passed, sdo}
use Rattle.served_places.specs.of_segment_model.Ends.{Passing}
use Rattle.served_rings.specs.Served.{AreServedEras, IsHeardOf, IsServedLife, IsServedNewest, replies_to}
use Rattle.served_rings.specs.Speakers.{spoken, table_of}
use Rattle.run_work.specs.of_slave_model.Profile.{Profile}
use Rattle.run_work.specs.of_slave_parts.Parts.{Server}
use Rattle.run_work.specs.of_slave_server.Serving.{Serving}
use Rattle.run_work.specs.of_slave_node.Node.{Node}
use Rattle.served_places.specs.of_state_model.Families.{InState}
use Rattle.served_places.specs.of_state_model.Stated.{Service}
use Rattle.served_places.specs.of_state_model.Promises.{state_behind}
use Rattle.served_places.specs.of_state_model.Promise.{services_in}

-- a mail that was passed on, and the server to which it came
pub record Given : Type 0 where
  pub server : InState Server
  pub mail : Mail

-- of a service that came to this server: of a mail that is passed on
abbrev pub given_one : InState Server → Asked → List Given
given_one v (sdo q) = []
given_one v (file q) = []
given_one v (drive q) = []
given_one v (net q) = []
given_one v (passed m) = record { server = v; mail = m } ∷ []

module _ (p : Profile) (boot : Bool) (station : ℕ) where
  -- THE MAILS that are passed on among these services, in order: each comes to the server behind the services before it
  abbrev pub given_in : InState Server → List (Service Asked) → List Given
  given_in v [] = []
  given_in v (Service.Mails q ∷ qs) = given_one v q ++ given_in ((spoken p).exec v q) qs
  given_in v (Service.State target ∷ qs) = given_in (record v { state = state_behind (table_of boot station) v.state target }) qs

  -- in the epochs that are over
  abbrev pub given_eras : (start : ℕ) (first : InState Server) (es : List (Era Body Asked Reply)) (b : InState Server) → AreServedEras p boot station start first es b → List Given
  given_eras start first _ _ AreServedEras.none = []
  given_eras start first _ _ (AreServedEras.unopened es b e before none) = given_eras start first es b before
  given_eras start first _ _ (AreServedEras.opened es b e left done before was) = given_eras start first es b before ++ given_in (record b { state = was.state }) (services_in e.account.started)

  -- in the newest
  abbrev pub given_newest : (start : ℕ) (from : InState Server) (e : Era Body Asked Reply) (n : Node Serving) (stand : Stand) → IsServedNewest p boot station start from e n stand → List Given
  given_newest start from e n _ (IsServedNewest.lives left done inner state was rests) = given_in (record from { state = was.state }) (services_in e.account.started)
  given_newest start from e n _ (IsServedNewest.unopened stand shut none holds) = []
  given_newest start from e n _ (IsServedNewest.over stand shut left done was holds) = given_in (record from { state = was.state }) (services_in e.account.started)

  -- ALL ALONG A LIFE
  abbrev pub given : (start : ℕ) (first : InState Server) (l : Life Body Asked Reply) (n : Node Serving) → IsServedLife p boot station start first l n → List Given
  given start first l n d = given_eras start first l.past d.from d.past ++ given_newest start d.from l.era n l.stand d.newest

  -- THE REPLIES that the servers give for them, each by its one step
  abbrev pub replies_given : List Given → List (List Body)
  replies_given gs = map (λ (g : Given). replies_to p boot station g.server g.mail) gs

  -- this row is of that mail, which has come so far, and just those replies were heard in it
  pub record IsGiven (g : Given) (passing : Option Passing) (r : Row Body Asked Reply) : Type 0 where
    pub service : r.service ≡ passed g.mail
    pub heard : IsHeardOf p boot station g.server g.mail passing r

  -- EACH OF THESE ROWS is of the mail at its place
  abbrev pub AllGiven : List Given → List (Option Passing) → List (Row Body Asked Reply) → Type 0
  AllGiven [] [] [] = ⊤
  AllGiven (g ∷ gs) (passing ∷ passings) (r ∷ rs) = IsGiven g passing r × AllGiven gs passings rs
  AllGiven _ _ _ = ⊥
