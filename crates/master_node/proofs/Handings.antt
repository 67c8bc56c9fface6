-- WHAT A POST HAS IN HAND of a mail that is passed on, as the life of its slave does.
use Rattle.std.proofs.Common.{◌≡◌, ◌⊎◌, inl, inr, ℕ, ◌+◌, length, Bool, true, false, Option, None, Some, List, [], ◌∷◌, refl, sym, ap, ◌∙◌, subst}
use Rattle.std.specs.Prelude.{is_some, map, nat_lt, slice_get, All, if◌then◌else◌, ⊤}
use Rattle.std.proofs.lemmas.List.Elements.{All-head}
use Rattle.life_runs.specs.of_master_duty.Reply.{Reply}
use Rattle.life_runs.specs.of_segment_model.Ends as Ends
use Rattle.life_runs.specs.of_state_model.Stated.{Service}
use Rattle.life_runs.specs.of_master_hand.Laying.{Waiting, asked_next, ready_by, ready_of}
use Rattle.life_runs.specs.of_master_hand.Spoken.{Asked, is_passed, net, passed}
use Rattle.life_runs.specs.of_master_hand.Talk.{asked_of}
use Rattle.life_runs.specs.of_master_hand.declared.laying.Laid.{Laid}
use Rattle.life_runs.specs.of_protocol_models.EoeClient as EoeClient
use Rattle.life_runs.specs.of_master_side.Free.{begins_by}
use Rattle.life_runs.specs.of_master_side.Passing.{passing_behind}
use Rattle.life_runs.specs.of_master_side.Shown.{wish_begun, wished}
use Rattle.life_runs.specs.of_master_side.declared.carried.Wish.{Wish}
use Rattle.life_runs.specs.of_link_mails.Body.{Body}
use Rattle.life_runs.specs.of_master_tour.Frees.{stand_begins}
use Rattle.life_runs.specs.of_master_tour.declared.stop.Stand.{Stand}
use Rattle.life_runs.specs.of_life_model.Lives
use Rattle.life_runs.specs.of_life_model.Lives.{Life}
use Rattle.life_runs.specs.of_segment_plan.declared.service.Service as Plan
use Rattle.life_runs.specs.Served.{Keyed, Serves}
use Rattle.life_runs.specs.Told.{Passed}
use Rattle.master_node.specs.Begins.{is_other}
use Rattle.master_node.specs.Coming.{IsLaid, wish_of}
use Rattle.master_node.specs.Handed.{HasBegun, IsOldestWork, LaysWork, hand_behind, work_from}
use Rattle.master_node.specs.Inhand.{MailsWork, WorkOf}
use Rattle.master_node.specs.Listing.{where_began}
use Rattle.master_node.specs.Named.{IsHanded}
use Rattle.master_node.specs.Passes.{BeginsFree, IsReady, LaysMail, MailWaits}
use Rattle.master_node.specs.Serving.{MayPass, waits_of}
use Rattle.master_node.specs.declared.coming.Coming.{Coming}
use Rattle.master_node.specs.declared.post.Asked as Queue
use Rattle.master_node.specs.declared.post.Post.{Post}
use Rattle.master_node.specs.declared.post.Work.{Work}
use Rattle.life_runs.proofs.Quiet.{none_in, passed_in}
use Rattle.master_node.proofs.Servings.{keyed, none_some}

-- THE OLDEST IS LAID READY under the key of its asker
pub oldest_so : (p : Post) (a : Queue.Asked) → Some a ≡ slice_get p.mails.items 0 → IsOldestWork (waits_of p) (Work.Passed a.key)
oldest_so p a e = go p.mails.items e
  where
    go : (as' : List Queue.Asked) → Some a ≡ slice_get as' 0 → IsOldestWork (map keyed as') (Work.Passed a.key)
    go [] f = tt
    go (b ∷ bs) f = (let same : a ≡ b = cc in ap (λ z. Work.Passed z.key) same)

pub oldest_none : (p : Post) (work : Work) → slice_get p.mails.items 0 ≡ None → IsOldestWork (waits_of p) work
oldest_none p work e = go p.mails.items e
  where
    go : (as' : List Queue.Asked) → slice_get as' 0 ≡ None → IsOldestWork (map keyed as') work
    go [] f = tt
    go (b ∷ bs) f = absurd (cc)

-- THE OLDEST MAIL COMES INTO HAND
pub takes_mail : (l m : Life Body Asked Reply) (k : Keyed) (rest : List Keyed) (hand : Option Passed) → l.stand ≡ Lives.Stand.Open → HasBegun l (Some (Service.Mails (passed k.mail))) m →
    IsHanded (Work.Passed k.key) (hand_behind (k ∷ rest) hand (Some (Service.Mails (passed k.mail)))) m
takes_mail l m k rest hand o b = record {
  named = λ key e. record {
    opened = b.stand ∙ o;
    passing = ap (λ (z : Option _). is_some z) b.passing;
    alone = b.duty;
    passed = record { key = k.key; mail = k.mail; told = [] };
    is = refl;
    key_is = key_of e;
  };
  only = λ n t. (k.key, refl);
}
  where
    key_of : {key : ℕ} → Work.Passed k.key ≡ Work.Passed key → k.key ≡ key
    key_of e = cc

-- SO DOES ANOTHER SERVICE, and no mail is in hand then that is passed on
pub takes_other : (l m : Life Body Asked Reply) (work : Work) (hand : Option Passed) (b : Option (Service Asked)) → ((key : ℕ) → work ≡ Work.Passed key → ⊥) → l.era.passing ≡ None → ((q : Asked) → b ≡ Some (Service.Mails q) → is_passed q ≡ false) →
    HasBegun l b m → IsHanded work hand m
takes_other l m work hand b other none own h = record {
  named = λ key e. absurd (other key e);
  only = λ n t. absurd (none_some m.era.passing (h.passing ∙ behind b own) t);
}
  where
    by : (q : Asked) → is_passed q ≡ false → passing_behind is_passed l.era.passing (Some (Service.Mails q)) ≡ None
    by q e = ap (λ (z : Bool). if z then Some Ends.Passing.Waiting else l.era.passing) e ∙ none

    behind : (c : Option (Service Asked)) → ((q : Asked) → c ≡ Some (Service.Mails q) → is_passed q ≡ false) → passing_behind is_passed l.era.passing c ≡ None
    behind None f = none
    behind (Some (Service.Mails q)) f = by q (f q refl)
    behind (Some (Service.State target)) f = none

-- WHAT IS LAID READY of the script, and a packet, passes no mail on
next_own : (room : ℕ) (o : Option Plan.Service) (q : Asked) → asked_next room o ≡ Some q → is_passed q ≡ false
next_own room None q e = absurd (cc)
next_own room (Some s) q e = ap passed_in (sym e) ∙ none_in room s

pub own_script : (lay : Waiting) (q : Asked) → lay.laid ≡ Laid.Script → ready_of lay ≡ Some q → is_passed q ≡ false
own_script lay q l e = next_own lay.areas.out (slice_get lay.script lay.number) q (sym (ap (λ z. ready_by z lay) l) ∙ e)

pub own_packet : (lay : Waiting) (q : Asked) → (lay.laid ≡ Laid.Packet) ⊎ (lay.laid ≡ Laid.Nothing) → ready_of lay ≡ Some q → is_passed q ≡ false
own_packet lay q (inl l) e = (let same : Some (net (EoeClient.packet lay.packet lay.frame)) ≡ Some q = sym (ap (λ z. ready_by z lay) l) ∙ e in let is : net (EoeClient.packet lay.packet lay.frame) ≡ q = cc in ap is_passed (sym is))
own_packet lay q (inr l) e = absurd (let bad : None ≡ Some q = sym (ap (λ z. ready_by z lay) l) ∙ e in cc)

-- as a post has it
abbrev WorksAs : Work → Option Asked → Type 0
WorksAs work None = ⊤
WorksAs work (Some q) = MailsWork (is_passed q) (is_other q) work

set_works : (b : Bool) (block : List ℕ) → WorksAs Work.Mails (if b then None else Some (net (EoeClient.set_ip block)))
set_works true block = tt
set_works false block = refl

own_works : (room : ℕ) (s : Plan.Service) → WorksAs Work.Mails (asked_of room s)
own_works room (Plan.Service.Sdo service) = refl
own_works room (Plan.Service.ReadFile name pass) = refl
own_works room (Plan.Service.WriteFile name pass bytes) = refl
own_works room (Plan.Service.ReadIdn drive idn elements) = refl
own_works room (Plan.Service.WriteIdn drive idn elements bytes) = refl
own_works room (Plan.Service.SetIp block) = set_works (nat_lt room (length block + 10)) block
own_works room Plan.Service.GetIp = refl
own_works room (Plan.Service.State target) = tt
own_works room (Plan.Service.Forward packet) = tt

next_works : (room : ℕ) (o : Option Plan.Service) → WorksAs Work.Mails (asked_next room o)
next_works room None = tt
next_works room (Some s) = own_works room s

pub script_work : (lay : Waiting) (q : Asked) → lay.laid ≡ Laid.Script → ready_of lay ≡ Some q → MailsWork (is_passed q) (is_other q) Work.Mails
script_work lay q l e = subst (λ z. WorksAs Work.Mails z) (sym (ap (λ z. ready_by z lay) l) ∙ e) (next_works lay.areas.out (slice_get lay.script lay.number))

pub packet_work : (lay : Waiting) (q : Asked) → (lay.laid ≡ Laid.Packet) ⊎ (lay.laid ≡ Laid.Nothing) → ready_of lay ≡ Some q → MailsWork (is_passed q) (is_other q) Work.Packet
packet_work lay q (inl l) e = subst (λ z. WorksAs Work.Packet z) (sym (ap (λ z. ready_by z lay) l) ∙ e) refl
packet_work lay q (inr l) e = absurd (let bad : None ≡ Some q = sym (ap (λ z. ready_by z lay) l) ∙ e in cc)

-- what came by a wish was ready
pub begins_some : (stand : Stand) (free : Bool) (ready : Option Asked) → true ≡ stand_begins stand (begins_by free (Some Wish.Mails) ready) → is_some ready ≡ true
begins_some (Stand.Opening up) free ready e = absurd (let bad : true ≡ false = e in cc)
begins_some Stand.Gone free ready e = absurd (let bad : true ≡ false = e in cc)
begins_some Stand.Open true ready e = sym e
begins_some Stand.Open false ready e = absurd (let bad : true ≡ false = e in cc)

-- ONE VISIT: the post has in hand what came into hand
module _ (w : Serves) (p mid q : Post) (lay : Waiting) (room : ℕ) (ks : List Keyed) (stand : Stand) (free : Bool) (b : Option (Service Asked)) (same : ks ≡ w.waits) (there : waits_of p ≡ ks) (begins : BeginsFree w.lead.lived.life b)
    (before : (l : Life Body Asked Reply) → HasBegun w.lead.lived.life None l → IsHanded p.work w.hand l) where
  abbrev Now : Option (Service Asked) → Type 0
  Now c = ((l : Life Body Asked Reply) → HasBegun w.lead.lived.life c l → IsHanded q.work (hand_behind w.waits w.hand c) l) × WorkOf c p.work q.work

  -- nothing did
  stays_on : b ≡ None → q.work ≡ p.work → Now b
  stays_on e o = subst (λ z. Now z) (sym e) (λ l h. subst (λ z. IsHanded z w.hand l) (sym o) (before l h), o)

  -- another service did
  other_on : (s : Service Asked) → b ≡ Some s → ((key : ℕ) → q.work ≡ Work.Passed key → ⊥) → ((r : Asked) → s ≡ Service.Mails r → is_passed r ≡ false) → WorkOf (Some s) p.work q.work → Now b
  other_on s e o own k = (λ l h. takes_other w.lead.lived.life l q.work _ b o (begins s e).1 (λ r f. own r (let z : Some s ≡ Some (Service.Mails r) = sym e ∙ f in cc)) h, subst (λ z. WorkOf z p.work q.work) (sym e) k)

  mails_on : (ready : Option Asked) → is_some ready ≡ true → b ≡ wished Wish.Mails ready → ((key : ℕ) → q.work ≡ Work.Passed key → ⊥) → ((r : Asked) → ready ≡ Some r → is_passed r ≡ false) → ((r : Asked) → ready ≡ Some r → MailsWork (is_passed r) (is_other r) q.work) → Now b
  mails_on None t e o own k = absurd (let bad : false ≡ true = t in cc)
  mails_on (Some r) t e o own k = other_on (Service.Mails r) e o (λ r' f. own r' (let z : r ≡ r' = cc in ap (λ y. Some y) z)) (k r refl)

  mail_on : (ls : List Keyed) → ls ≡ ks → (ls ≡ [] → ⊥) → All (λ k. MayPass room k) ls → IsReady room ls lay → b ≡ wished Wish.Mails (ready_of lay) → IsOldestWork ls mid.next → q.work ≡ mid.next → Now b
  mail_on [] is some fits ready e next o = absurd (some refl)
  mail_on (k ∷ rest) is some fits ready e next o =
      let r = (ready (All-head (λ k. MayPass room k) k rest fits)).1 in
      let came : b ≡ Some (Service.Mails (passed k.mail)) = e ∙ ap (λ z. wished Wish.Mails z) r in
      subst (λ z. Now z) (sym came) (
        λ l h. subst (λ z. IsHanded z (hand_behind w.waits w.hand (Some (Service.Mails (passed k.mail)))) l) (sym (o ∙ next))
            (subst (λ z. IsHanded (Work.Passed k.key) (hand_behind z w.hand (Some (Service.Mails (passed k.mail)))) l) (is ∙ same) (takes_mail w.lead.lived.life l k rest w.hand (begins _ came).0 h)),
        (k.key, o ∙ next),
      )

  pub handing_on : (coming : Option Coming) (result : Bool) → b ≡ wish_begun result (wish_of coming) (ready_of lay) → result ≡ stand_begins stand (begins_by free (wish_of coming) (ready_of lay)) → IsLaid coming lay.laid → LaysMail coming room ks lay → MailWaits ks coming →
      All (λ k. MayPass room k) ks → LaysWork coming p mid → q.work ≡ work_from (where_began result coming) mid → Now b
  handing_on None true e did laid mail waits fits lays o = stays_on e (o ∙ lays.work)
  handing_on None false e did laid mail waits fits lays o = stays_on e (o ∙ lays.work)
  handing_on (Some Coming.Packet) false e did laid mail waits fits lays o = stays_on e (o ∙ lays.work)
  handing_on (Some Coming.Mail) false e did laid mail waits fits lays o = stays_on e (o ∙ lays.work)
  handing_on (Some Coming.Script) false e did laid mail waits fits lays o = stays_on e (o ∙ lays.work)
  handing_on (Some (Coming.State target)) false e did laid mail waits fits lays o = stays_on e (o ∙ lays.work)
  handing_on (Some Coming.Packet) true e did laid mail waits fits lays o =
      mails_on (ready_of lay) (begins_some stand free (ready_of lay) did) e (λ key f. (let is : q.work ≡ Work.Packet = o ∙ lays.next in let bad : Work.Packet ≡ Work.Passed key = sym is ∙ f in cc)) (λ r f. own_packet lay r laid f)
      (λ r f. subst (λ z. MailsWork (is_passed r) (is_other r) z) (sym (o ∙ lays.next)) (packet_work lay r laid f))
  handing_on (Some Coming.Script) true e did laid mail waits fits lays o =
      mails_on (ready_of lay) (begins_some stand free (ready_of lay) did) e (λ key f. (let is : q.work ≡ Work.Mails = o ∙ lays.next in let bad : Work.Mails ≡ Work.Passed key = sym is ∙ f in cc)) (λ r f. own_script lay r laid f)
      (λ r f. subst (λ z. MailsWork (is_passed r) (is_other r) z) (sym (o ∙ lays.next)) (script_work lay r laid f))
  handing_on (Some (Coming.State target)) true e did laid mail waits fits lays o =
      other_on (Service.State target.state) e (λ key f. (let is : q.work ≡ Work.State = o ∙ lays.next in let bad : Work.State ≡ Work.Passed key = sym is ∙ f in cc)) (λ r f. absurd (let bad : Service.State target.state ≡ Service.Mails r = f in cc)) (o ∙ lays.next)
  handing_on (Some Coming.Mail) true e did laid mail waits fits lays o =
      mail_on ks refl waits fits mail e (subst (λ z. IsOldestWork z mid.next) there lays.next) o
