-- What comes into hand of a slave where mails wait: the next of its script, a packet, or the oldest mail; and how far a mail has come then that is passed on.
use Rattle.std.proofs.Common.{◌≡◌, ℕ, Bool, true, false, Option, None, Some, List, [], ◌∷◌, refl, sym, ap, ◌∙◌, subst}
use Rattle.std.specs.Prelude.{◌&&◌, is_some, drop, All, slice_get, if◌then◌else◌}
use Rattle.std.proofs.lemmas.List.Elements.{All-head}
use Rattle.life_runs.specs.Led.{Comes}
use Rattle.life_runs.specs.of_master_duty.Reply.{Reply}
use Rattle.life_runs.specs.of_exchange_model.Exchange.{Speech}
use Rattle.life_runs.specs.of_segment_model.Ends as Ends
use Rattle.life_runs.specs.of_state_model.Stated.{Service}
use Rattle.life_runs.specs.of_state_model.Accounts.{Pick, account_next}
use Rattle.life_runs.specs.of_master_hand.Laying.{Waiting, Scripted, ready_of, scripted, scripted_behind}
use Rattle.life_runs.specs.of_master_hand.Spoken.{Asked, acknowledged, is_followed, is_passed, passed}
use Rattle.life_runs.specs.of_master_side.Free.{begins_by}
use Rattle.life_runs.specs.of_master_side.Passing.{PassingShows, passing_behind, passing_seen}
use Rattle.life_runs.specs.of_master_side.Shown.{takes_ready, wish_begun, wished}
use Rattle.life_runs.specs.of_master_side.declared.carried.Wish.{Wish}
use Rattle.life_runs.specs.of_master_side.declared.passing.Passing.{Passing}
use Rattle.life_runs.specs.of_link_mails.Body.{Body}
use Rattle.life_runs.specs.of_master_tour.Frees.{stand_begins}
use Rattle.life_runs.specs.of_master_tour.Passing.{StandPassing}
use Rattle.life_runs.specs.of_master_tour.Stands.{Counts}
use Rattle.life_runs.specs.of_master_tour.declared.stop.Stand.{Stand}
use Rattle.life_runs.specs.of_life_model.Lives
use Rattle.life_runs.specs.of_life_model.Lives.{Life, granted, life_next, passing_begins}
use Rattle.life_runs.proofs.of_master_tour.Passings.{next_open}
use Rattle.life_runs.specs.of_segment_plan.declared.service.Service as Plan
use Rattle.life_runs.specs.Served.{Keyed, ServedComes}
use Rattle.life_runs.specs.Told.{Passed}
use Rattle.master_node.specs.Coming.{IsLaid, wish_of}
use Rattle.master_node.specs.Passes.{BeginsFree, IsNextState, LaysMail, MailWaits, waits_behind}
use Rattle.master_node.specs.Serving.{MayPass}
use Rattle.master_node.specs.declared.coming.Coming.{Coming}
use Rattle.master_node.proofs.Cames.{NumberBehind, came_by}

-- how it stands to its slave stays
pub next_stands : (x : Speech Body Asked Reply) (made : ℕ) (l : Life Body Asked Reply) (stand : Lives.Stand) (pick : Pick Asked) → l.stand ≡ stand → (life_next x acknowledged is_followed is_passed made l stand pick).stand ≡ stand
next_stands x made l (Lives.Stand.Opens o) pick e = e
next_stands x made l Lives.Stand.Open pick e = e
next_stands x made l Lives.Stand.Gone pick e = e

-- where nothing came into hand all is as it was
pub record NoneCame (n m : ℕ) (waits left : List Keyed) (hand behind : Option Passed) : Type 0 where
  pub number_is : m ≡ n
  pub waits_are : left ≡ waits
  pub hand_is : behind ≡ hand

pub none_came : (room : ℕ) (script : List Plan.Service) (waits left : List Keyed) (hand behind : Option Passed) (n m : ℕ) (b : Option (Service Asked)) → ServedComes room script waits hand n b m left behind → b ≡ None → NoneCame n m waits left hand behind
none_came room script waits left hand behind n m b ServedComes.none e = record { number_is = refl; waits_are = refl; hand_is = refl }
none_came room script waits left hand behind n m b (ServedComes.own s k c) e = absurd (cc)
none_came room script waits left hand behind n m b (ServedComes.mail k rest w) e = absurd (cc)

-- WHAT CAME, with the mail that is in hand then
pub record CameServed (room : ℕ) (script : List Plan.Service) (waits left : List Keyed) (hand : Option Passed) (n m : ℕ) (b : Option (Service Asked)) : Type 0 where
  pub behind : Option Passed
  pub comes : ServedComes room script waits hand n b m left behind

own_came : (room : ℕ) (script : List Plan.Service) (waits : List Keyed) (hand : Option Passed) (n m : ℕ) (b : Option (Service Asked)) → Comes room script n b m → CameServed room script waits waits hand n m b
own_came room script waits hand n m b Comes.none = record { behind = hand; comes = ServedComes.none }
own_came room script waits hand n m b (Comes.mails s q g a) = record { behind = None; comes = ServedComes.own (Service.Mails q) m (Comes.mails s q g a) }
own_came room script waits hand n m b (Comes.state target g) = record { behind = None; comes = ServedComes.own (Service.State _) m (Comes.state target g) }
own_came room script waits hand n m b (Comes.packet octets frame) = record { behind = None; comes = ServedComes.own (Service.Mails _) m (Comes.packet octets frame) }

-- where its side is free it begins what was laid ready
begins_open : (stand : Stand) (free : Bool) (ready : Option Asked) → stand ≡ Stand.Open → free ≡ true → is_some ready ≡ true → stand_begins stand (begins_by free (Some Wish.Mails) ready) ≡ true
begins_open stand free ready o f r = ap (λ z. stand_begins z (begins_by free (Some Wish.Mails) ready)) o ∙ ap (λ z. z && is_some ready) f ∙ r

module _ (room : ℕ) (w : Waiting) (s : Scripted) (n : ℕ) (hand : Option Passed) where
  -- the oldest mail
  mail_came : (ks : List Keyed) (result : Bool) (stand : Stand) (free : Bool) → (ks ≡ [] → ⊥) → All (λ k. MayPass room k) ks → LaysMail (Some Coming.Mail) room ks w → result ≡ stand_begins stand (begins_by free (Some Wish.Mails) (ready_of w)) → stand ≡ Stand.Open → free ≡ true →
      s ≡ (if takes_ready result (Some Wish.Mails) then scripted_behind w else scripted w) → NumberBehind result (Some Coming.Mail) s n →
      CameServed room w.script ks (drop 1 ks) hand w.number n (wish_begun result (Some Wish.Mails) (ready_of w))
  mail_came [] result stand free some all lays did o f e b = absurd (some refl)
  mail_came (k ∷ rest) result stand free some all lays did o f e b =
      let l = lays (All-head (λ k. MayPass room k) k rest all) in
      let yes : result ≡ true = did ∙ begins_open stand free (ready_of w) o f (ap is_some l.1) in
      let number : n ≡ w.number = subst (λ z. NumberBehind z (Some Coming.Mail) s n) yes b ∙ ap (λ z. z.number) (e ∙ ap (λ (z : Bool). if takes_ready z (Some Wish.Mails) then scripted_behind w else scripted w) yes) ∙ ap (λ z. (scripted_behind (record w { laid = z })).number) l.0 in
      let begun : wish_begun result (Some Wish.Mails) (ready_of w) ≡ Some (Service.Mails (passed k.mail)) = ap (λ z. wish_begun z (Some Wish.Mails) (ready_of w)) yes ∙ ap (λ z. wished Wish.Mails z) l.1 in
      subst (λ z. CameServed room w.script (k ∷ rest) rest hand w.number n z) (sym begun)
      (subst (λ z. CameServed room w.script (k ∷ rest) rest hand w.number z (Some (Service.Mails (passed k.mail)))) (sym number)
      (record { behind = Some (record { key = k.key; mail = k.mail; told = [] }); comes = ServedComes.mail k rest refl }))

  pub served_came : (coming : Option Coming) (ks : List Keyed) (result : Bool) (stand : Stand) (free : Bool) → w.areas.out ≡ room → IsNextState (slice_get w.script w.number) coming → IsLaid coming w.laid → MailWaits ks coming → All (λ k. MayPass room k) ks → LaysMail coming room ks w →
      result ≡ stand_begins stand (begins_by free (wish_of coming) (ready_of w)) → (is_some coming ≡ true → (stand ≡ Stand.Open) × (free ≡ true)) → (takes_ready result (wish_of coming) ≡ true → is_some (ready_of w) ≡ true) →
      s ≡ (if takes_ready result (wish_of coming) then scripted_behind w else scripted w) → NumberBehind result coming s n →
      CameServed room w.script ks (waits_behind coming ks) hand w.number n (wish_begun result (wish_of coming) (ready_of w))
  served_came None ks result stand free r c l m all lays did o i e b = own_came room w.script ks hand w.number n _ (came_by None result room w s n r tt l i e b)
  served_came (Some Coming.Packet) ks result stand free r c l m all lays did o i e b = own_came room w.script ks hand w.number n _ (came_by (Some Coming.Packet) result room w s n r tt l i e b)
  served_came (Some Coming.Script) ks result stand free r c l m all lays did o i e b = own_came room w.script ks hand w.number n _ (came_by (Some Coming.Script) result room w s n r tt l i e b)
  served_came (Some (Coming.State target)) ks result stand free r c l m all lays did o i e b = own_came room w.script ks hand w.number n _ (came_by (Some (Coming.State target)) result room w s n r c l i e b)
  served_came (Some Coming.Mail) ks result stand free r c l m all lays did o i e b = mail_came ks result stand free m all lays did (o refl).0 (o refl).1 e b

-- nothing comes into hand by no wish
pub none_begun : (coming : Option Coming) (result : Bool) (ready : Option Asked) → coming ≡ None → wish_begun result (wish_of coming) ready ≡ None
none_begun None true ready e = refl
none_begun None false ready e = refl
none_begun (Some c) result ready e = absurd (cc)

-- HOW FAR A MAIL HAS COME, by what came into hand
abbrev waits_of_begin : Option (Service Asked) → Option Passing
waits_of_begin None = None
waits_of_begin (Some (Service.Mails q)) = if is_passed q then Some Passing.Waiting else None
waits_of_begin (Some (Service.State target)) = None

seen_begin : (b : Option (Service Asked)) → passing_behind is_passed None b ≡ passing_seen (waits_of_begin b)
seen_begin None = refl
seen_begin (Some (Service.State target)) = refl
seen_begin (Some (Service.Mails q)) = go (is_passed q)
  where
    go : (z : Bool) → (if z then Some Ends.Passing.Waiting else None) ≡ passing_seen (if z then Some Passing.Waiting else None)
    go true = refl
    go false = refl

module _ (x : Speech Body Asked Reply) (made : ℕ) where
  stays_none : (l : Life Body Asked Reply) (stand : Lives.Stand) (pick : Pick Asked) → pick.begin ≡ None → (life_next x acknowledged is_followed is_passed made l stand pick).era.passing ≡ l.era.passing
  stays_none l (Lives.Stand.Opens o) pick e = refl
  stays_none l Lives.Stand.Gone pick e = refl
  stays_none l Lives.Stand.Open pick e = go l.era.passing
    where
      go : (p : Option Ends.Passing) → passing_begins x acknowledged is_followed is_passed p l.era.account (account_next x acknowledged made l.era.side l.era.account (granted p pick)) (granted p pick).begin ≡ p
      go None = ap (λ z. passing_begins x acknowledged is_followed is_passed None l.era.account (account_next x acknowledged made l.era.side l.era.account pick) z) e
      go (Some p) = refl

  pub next_passing : (l n : Life Body Asked Reply) (b : Option (Service Asked)) (pick : Pick Asked) → n ≡ life_next x acknowledged is_followed is_passed made l l.stand pick → pick.begin ≡ b → Counts made pick.begin l n → BeginsFree l b → n.era.passing ≡ passing_behind is_passed l.era.passing b
  next_passing l n None pick is e counts free = ap (λ z. z.era.passing) is ∙ stays_none l l.stand pick e
  next_passing l n (Some q) pick is e counts free =
      let f = free q refl in
      let none : is_some l.era.passing ≡ true → pick.begin ≡ None = λ t. absurd (let u : is_some {T = Ends.Passing} None ≡ true = ap (λ (z : Option Ends.Passing). is_some z) (sym f.1) ∙ t in cc) in
      let p = waits_of_begin (Some q) in
      let seen : passing_behind is_passed l.era.passing pick.begin ≡ passing_seen p = (λ i. passing_behind is_passed (f.1 i) (e i)) ∙ seen_begin (Some q) in
      let s = next_open x acknowledged is_followed is_passed made l pick.begin pick.hold Stand.Open true p f.0 refl none (subst (λ z. Counts made pick.begin l z) is counts) (record { is = seen; awaited = λ t. refl }) in
      ap (λ z. z.era.passing) is ∙ s.is ∙ sym (seen_begin (Some q)) ∙ ap (λ z. passing_behind is_passed z (Some q)) (sym f.1)

-- a stand shows of a life how far its mail has come, and nothing more
pub stand_same : (stand : Stand) (awaits : Bool) (p : Option Passing) (l m : Life Body Asked Reply) → m.era.passing ≡ l.era.passing → StandPassing stand awaits p l → StandPassing stand awaits p m
stand_same (Stand.Opening up) awaits p l m e s = λ t. subst (λ z. PassingShows awaits p z) (sym e) (s t)
stand_same Stand.Open awaits p l m e s = subst (λ z. PassingShows awaits p z) (sym e) s
stand_same Stand.Gone awaits p l m e s = tt

pub stand_awaits : (stand : Stand) (a b : Bool) (p : Option Passing) (l : Life Body Asked Reply) → (a ≡ true → b ≡ true) → StandPassing stand a p l → StandPassing stand b p l
stand_awaits (Stand.Opening up) a b p l h s = λ t. (let k = s t in record { is = k.is; awaited = λ u. h (k.awaited u) })
stand_awaits Stand.Open a b p l h s = record { is = s.is; awaited = λ u. h (s.awaited u) }
stand_awaits Stand.Gone a b p l h s = tt
