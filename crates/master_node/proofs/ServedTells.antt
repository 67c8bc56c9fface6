-- WHICH SERVICES ARE LISTED as begun while a frame of a serving is made: just those that came into hand, a mail with its number among all that were asked.
use Rattle.std.proofs.Common.{◌≡◌, ◌+◌, ◌-◌, ◌%◌, ℕ, zero, suc, Bool, true, false, Option, None, Some, List, [], ◌∷◌, refl, sym, ap, ◌∙◌, subst, arith, length}
use Rattle.std.specs.Prelude.{is_some, map, slice_get, All, IfSome, if◌then◌else◌}
use Rattle.std.proofs.lemmas.List.Elements.{All-head}
use Rattle.life_runs.specs.of_frame_view.View.{Lens}
use Rattle.life_runs.specs.of_frame_view.Shares.{AllBoth}
use Rattle.life_runs.specs.of_state_model.Stated.{Service}
use Rattle.life_runs.specs.of_master_hand.Laying.{Waiting, ready_by, ready_of}
use Rattle.life_runs.specs.of_master_hand.Spoken.{Asked, is_passed}
use Rattle.life_runs.specs.of_master_hand.declared.hand.InHand.{InHand}
use Rattle.life_runs.specs.of_master_side.Free.{begins_by, is_free_side}
use Rattle.life_runs.specs.of_master_side.Shown.{wish_begun, wished}
use Rattle.life_runs.specs.of_master_side.declared.carried.Wish.{Wish}
use Rattle.life_runs.specs.of_master_side.declared.hand.Hand.{Ghosts}
use Rattle.life_runs.specs.of_master_tour.Frees.{stand_begins}
use Rattle.life_runs.specs.of_master_tour.Made.{is_in}
use Rattle.life_runs.specs.of_master_tour.Walks.{StepsAt}
use Rattle.life_runs.specs.of_master_tour.declared.stop.Stand.{Stand}
use Rattle.life_runs.specs.of_master_tour.declared.stop.Stop.{Stop}
use Rattle.life_runs.specs.Served.{Keyed, Serves, ServedTurn}
use Rattle.master_node.specs.Begins.{begun_for, begun_of}
use Rattle.master_node.specs.Coming.{IsLaid, wish_of}
use Rattle.master_node.specs.Events.{ServedBegin, begun_told, oldest_in, served_tells}
use Rattle.master_node.specs.Listing.{HasListed, began_from, counted_from, events_in, forwards_behind, number_at, origin_of, where_began}
use Rattle.master_node.specs.Numbered.{IsNumbered}
use Rattle.master_node.specs.Origins.{IsFrom, IsGateway, LaysFrom, forwards_at}
use Rattle.master_node.specs.Passes.{IsServing, LaysMail, MailWaits, ThreeFrom, waits_in}
use Rattle.master_node.specs.Serving.{MayPass, run_lead, run_turn, waits_of}
use Rattle.master_node.specs.declared.coming.Coming.{Coming}
use Rattle.master_node.specs.declared.event.Event.{Event}
use Rattle.master_node.specs.declared.event.Origin.{Origin}
use Rattle.master_node.specs.declared.node.MasterNode.{MasterNode}
use Rattle.master_node.specs.declared.post.Post.{Post}
use Rattle.master_node.proofs.Begins.{spot_at}
use Rattle.master_node.proofs.Handings.{begins_some, own_packet, own_script}
use Rattle.master_node.proofs.Listing.{Came, ToldSo, events_by, from_same, next_came, packet_came, told_same}
use Rattle.master_node.proofs.Lists.{no_end, no_step, steps_map, steps_some}
use Rattle.master_node.proofs.Mailed.{none_came}
use Rattle.master_node.proofs.Servings.{keyed_long}
use Rattle.master_node.proofs.ServedVisits.{Goes}

-- ---- what came into hand was listed so

-- with where it comes from, a mail by its number
abbrev Told : ℕ → ℕ → ℕ → ℕ → Origin → Bool → Option Coming → Option (Service Asked) → Type 0
Told place number forwards oldest o result coming b =
    (began_from place (where_began result coming) o ≡ begun_told place number forwards oldest b) × (counted_from (where_began result coming) o forwards ≡ forwards_behind forwards b)

-- a service that is no mail which is passed on, as in a run
own_told : (place number forwards oldest : ℕ) (o : Origin) (result : Bool) (coming : Option Coming) (ready : Option Asked) → is_some ready ≡ true → ((q : Asked) → ready ≡ Some q → is_passed q ≡ false) → Came place number forwards o result coming (wished Wish.Mails ready) →
    Told place number forwards oldest o result coming (wished Wish.Mails ready)
own_told place number forwards oldest o result coming None t n c = absurd (cc)
own_told place number forwards oldest o result coming (Some q) t n c =
    (c.0 ∙ ap (λ (z : Bool). Event.Began place (if z then Origin.Gateway oldest else origin_of number forwards (Service.Mails q)) ∷ []) (sym (n q refl)), c.1)

mail_told : (place number forwards oldest room : ℕ) (o : Origin) (w : Waiting) (ks : List Keyed) → (ks ≡ [] → ⊥) → All (λ k. MayPass room k) ks → LaysMail (Some Coming.Mail) room ks w → o ≡ Origin.Gateway oldest →
    Told place number forwards oldest o true (Some Coming.Mail) (wished Wish.Mails (ready_of w))
mail_told place number forwards oldest room o w [] some fits lays g = absurd (some refl)
mail_told place number forwards oldest room o w (k ∷ rest) some fits lays g =
    subst (λ z. Told place number forwards oldest z true (Some Coming.Mail) (wished Wish.Mails (ready_of w))) (sym g)
    (subst (λ z. Told place number forwards oldest (Origin.Gateway oldest) true (Some Coming.Mail) (wished Wish.Mails z)) (sym (lays (All-head (λ q. MayPass room q) k rest fits)).1) (refl, refl))

pub told_so : (place number forwards oldest room : ℕ) (o : Origin) (w : Waiting) (ks : List Keyed) (stand : Stand) (free : Bool) (coming : Option Coming) (result : Bool) → result ≡ stand_begins stand (begins_by free (wish_of coming) (ready_of w)) → IsLaid coming w.laid → LaysMail coming room ks w → MailWaits ks coming →
    All (λ k. MayPass room k) ks → IsFrom coming number forwards o → IsGateway coming oldest o → Told place number forwards oldest o result coming (wish_begun result (wish_of coming) (ready_of w))
told_so place number forwards oldest room o w ks stand free coming false did laid lays waits fits f g = (refl, refl)
told_so place number forwards oldest room o w ks stand free None true did laid lays waits fits f g = (refl, refl)
told_so place number forwards oldest room o w ks stand free (Some Coming.Packet) true did laid lays waits fits f g =
    let t = begins_some stand free (ready_of w) did in
    own_told place number forwards oldest o true (Some Coming.Packet) (ready_of w) t (λ q e. own_packet w q laid e) (from_same place number forwards o (Origin.Forward forwards) true (Some Coming.Packet) _ f (packet_came place number forwards w laid t))
told_so place number forwards oldest room o w ks stand free (Some Coming.Mail) true did laid lays waits fits f g = mail_told place number forwards oldest room o w ks waits fits lays g
told_so place number forwards oldest room o w ks stand free (Some Coming.Script) true did laid lays waits fits f g =
    let t = begins_some stand free (ready_of w) did in
    own_told place number forwards oldest o true (Some Coming.Script) (ready_of w) t (λ q e. own_script w q laid e)
    (from_same place number forwards o (Origin.Script number) true (Some Coming.Script) _ f
    (subst (λ z. Came place number forwards (Origin.Script number) true (Some Coming.Script) (wished Wish.Mails (ready_by z w))) (sym laid)
    (next_came place number forwards w.areas.out (slice_get w.script w.number) (subst (λ z. is_some (ready_by z w) ≡ true) laid t))))
told_so place number forwards oldest room o w ks stand free (Some (Coming.State target)) true did laid lays waits fits f g =
    subst (λ z. Told place number forwards oldest z true (Some (Coming.State target)) (Some (Service.State target.state))) (sym f) (refl, refl)

-- ---- the slave that is visited

-- what is known of where a slave goes on from, where it goes on elsewhere
steps_first : {S : Type 0} (Q : S → Type 0) (P : S → S → Type 0) (i : ℕ) (xs ys zs : List S) → StepsAt (λ x y. Q x) i xs ys → StepsAt P i xs zs → StepsAt (λ x z. Q x) i xs zs
steps_first Q P zero [] ys zs e f = absurd e
steps_first Q P (suc i) [] ys zs e f = absurd e
steps_first Q P zero (x ∷ xs) ys [] e f = absurd f
steps_first Q P (suc i) (x ∷ xs) ys [] e f = absurd f
steps_first Q P zero (x ∷ xs) [] (z ∷ zs) e f = absurd e
steps_first Q P (suc i) (x ∷ xs) [] (z ∷ zs) e f = absurd e
steps_first Q P zero (x ∷ xs) (y ∷ ys) (z ∷ zs) e f = (e.0, f.1)
steps_first Q P (suc i) (x ∷ xs) (y ∷ ys) (z ∷ zs) e f = (f.0, steps_first Q P i xs ys zs e.1 f.1)

module _ {G : Ghosts InHand} (lens : ℕ → Lens) (recover made : ℕ) (coming : Option Coming) (result : Bool) (got : List Keyed) (stop : Option (Stop InHand G)) (here : ℕ) (what : Option (Service Asked))
    (is : (t : Stop InHand G) → stop ≡ Some t → what ≡ wish_begun result (wish_of coming) (ready_of t.side.hand.laying)) (begun : ℕ → Option (Service Asked)) (left : List ℕ) (waits : MailWaits got coming) (X : ℕ → Type 0) where
  -- AT A PLACE stands this slave, and what came into hand of it is told by its numbers
  pub record Visits (n : ℕ) (ws : List Serves) (ps : List Post) : Type 0 where
    pub spot : spot_at (map run_lead ws) n ≡ Some here
    pub laid : X (number_at (map run_lead ws) n)
    pub oldest : IfSome (slice_get ps n) (λ p. p.oldest ≡ oldest_in ws n)
    pub told : (place forwards : ℕ) (o : Origin) → IsFrom coming (number_at (map run_lead ws) n) forwards o → IsGateway coming (oldest_in ws n) o → Told place (number_at (map run_lead ws) n) forwards (oldest_in ws n) o result coming what

  told_here : (i : ℕ) (w : Serves) (ws : List Serves) (p : Post) (ps : List Post) (s v : Stop InHand G) → is_in i left ≡ true → s.place ≡ here → IsServing lens begun made left i w (waits_of p) s → IsNumbered (length w.asked) p → waits_of p ≡ got → Goes lens recover made coming result got stop s v →
      X s.side.hand.laying.number → Visits zero (w ∷ ws) (p ∷ ps)
  told_here i w ws p ps s v at e h counts all_got g x =
      let a = w.lead.lived in
      let t = g.second in
      let stays = g.ready.readied.stays in
      let room = (lens a.spot.station).out in
      let same = none_came room w.lead.script w.waits (waits_of p) w.hand h.hand w.lead.number s.side.hand.laying.number (begun a.spot.place) h.comes (h.still at) in
      let oldest = (length w.asked - length w.waits) % 4294967296 in
      let long : t.side.out.len ≡ room = ap (λ z. z.len) stays.side.side.out_is ∙ sym h.room in
      let mail = subst (λ z. LaysMail coming room z t.side.hand.laying) (sym all_got) (subst (λ z. LaysMail coming z got t.side.hand.laying) long g.ready.readied.mail) in
      record {
        spot = ap (λ z. Some z) (sym h.place ∙ e);
        laid = subst X same.number_is x;
        oldest = counts.oldest ∙ ap (λ z. (length w.asked - z) % 4294967296) (sym (keyed_long p.mails.items) ∙ ap length same.waits_are);
        told = λ place forwards o f k. subst (λ z. Told place w.lead.number forwards oldest o result coming z) (sym (is t g.seen.is))
            (told_so place w.lead.number forwards oldest room o t.side.hand.laying (waits_of p) t.stand (is_free_side t.side) coming result g.seen.visited.did g.ready.readied.laid mail (subst (λ z. MailWaits z coming) (sym all_got) waits)
            (subst (λ z. All (λ q. MayPass room q) z) (sym same.waits_are) h.fits) f k);
      }

  told_at : (i n m : ℕ) (ws : List Serves) (ps : List Post) (ss ts : List (Stop InHand G)) → m ≡ i + n → is_in m left ≡ true → ThreeFrom (λ j w ks s. IsServing lens begun made left j w ks s) i ws (map waits_of ps) ss → AllBoth (λ w p. IsNumbered (length w.asked) p) ws ps →
      waits_in (map waits_of ps) n ≡ got → StepsAt (λ s v. Goes lens recover made coming result got stop s v) n ss ts → StepsAt (λ s v. s.place ≡ here) n ss ts → StepsAt (λ s v. X s.side.hand.laying.number) n ss ts → Visits n ws ps
  told_at i n m ws ps [] ts e at h k g r o x = absurd (no_step _ n ts r)
  told_at i n m ws ps (s ∷ ss) [] e at h k g r o x = absurd (no_end _ n s ss r)
  told_at i n m [] [] (s ∷ ss) (t ∷ ts) e at h k g r o x = absurd h
  told_at i n m [] (p ∷ ps) (s ∷ ss) (t ∷ ts) e at h k g r o x = absurd h
  told_at i n m (w ∷ ws) [] (s ∷ ss) (t ∷ ts) e at h k g r o x = absurd h
  told_at i zero m (w ∷ ws) (p ∷ ps) (s ∷ ss) (t ∷ ts) e at h k g r o x =
      let f : m ≡ i = omega (arith, e) in
      told_here i w ws p ps s t (subst (λ z. is_in z left ≡ true) f at) o.0 h.0 k.0 g r.0 x.0
  told_at i (suc n) m (w ∷ ws) (p ∷ ps) (s ∷ ss) (t ∷ ts) e at h k g r o x =
      let v = told_at (suc i) n m ws ps ss ts (omega (arith, e)) at h.1 k.1 g r.1 o.1 x.1 in
      record { spot = v.spot; laid = v.laid; oldest = v.oldest; told = v.told }

-- THE VISIT of a slave is listed as what came into hand of it
module _ {G : Ghosts InHand} (lens : ℕ → Lens) (recover made : ℕ) (coming : Option Coming) (result : Bool) (place : ℕ) (got : List Keyed) (stop : Option (Stop InHand G)) (here : ℕ) (what : Option (Service Asked))
    (is : (t : Stop InHand G) → stop ≡ Some t → what ≡ wish_begun result (wish_of coming) (ready_of t.side.hand.laying)) (begun : ℕ → Option (Service Asked)) (left : List ℕ) (waits : MailWaits got coming) where
  abbrev pub Lays : List Post → List Post → ℕ → Type 0
  Lays ps qs k = StepsAt (λ p q. LaysFrom coming k p q) place ps qs

  pub told_visit : (ws : List Serves) (ps qs : List Post) (ss us ts : List (Stop InHand G)) → is_in place left ≡ true → ThreeFrom (λ j w ks s. IsServing lens begun made left j w ks s) 0 ws (map waits_of ps) ss → AllBoth (λ w p. IsNumbered (length w.asked) p) ws ps → waits_in (map waits_of ps) place ≡ got →
      StepsAt (λ s v. Goes lens recover made coming result got stop s v) place ss ts → StepsAt (λ s v. s.place ≡ here) place ss ts → StepsAt (λ s t. Lays ps qs s.side.hand.laying.number) place ss us →
      (spot_at (map run_lead ws) place ≡ Some here) × StepsAt (λ p q. ToldSo (served_tells ws) place (where_began result coming) what p q) place ps qs × Lays ps qs (number_at (map run_lead ws) place)
  told_visit ws ps qs ss us ts at h k g r o x =
      let v = told_at lens recover made coming result got stop here what is begun left waits (λ k. Lays ps qs k) 0 place place ws ps ss ts (omega arith) at h k g r o (steps_first (λ s. Lays ps qs s.side.hand.laying.number) _ place ss us ts x r) in (
        v.spot,
        steps_map _ (λ p q. ToldSo (served_tells ws) place (where_began result coming) what p q) place ps qs (λ p q y. (let z = v.told place p.forwards q.origin y.1.origin (subst (λ z. IsGateway coming z q.origin) y.0 y.1.gateway) in (y.1.counts, z.0, z.1)))
            (steps_some (λ p. p.oldest ≡ oldest_in ws place) (λ p q. LaysFrom coming (number_at (map run_lead ws) place) p q) place ps qs v.laid v.oldest),
        v.laid,
      )

-- ---- the turns of a frame

pub served_begin : (forwards : ℕ → ℕ) (left : List ℕ) (begun : ℕ → Option (Service Asked)) (ws : List Serves) (vs : List ServedTurn) (m n : MasterNode) → ((k : ℕ) → begun_of (map run_turn vs) k ≡ begun_for begun (map run_lead ws) k) → n.list ≡ m.list → n.posts ≡ m.posts →
    HasListed (served_tells ws) forwards left begun (map run_lead ws) m → ServedBegin forwards ws vs n
served_begin forwards left begun ws vs m n h e f x = record {
  visited = x.visited;
  once = x.once;
  listed = events_by m n e ∙ x.listed ∙ told_same _ _ x.visited (λ k w. ap (λ z. served_tells ws k (forwards k) z) (sym (h k)));
  others = λ k w. h k ∙ x.others k w;
  counts = λ k. ap (λ z. forwards_at z.items k) f ∙ x.counts k ∙ ap (λ z. forwards_behind (forwards k) z) (sym (h k));
}

pub served_made : (forwards : ℕ → ℕ) (ws : List Serves) (vs : List ServedTurn) (m n : MasterNode) → events_in n ≡ events_in m → n.posts ≡ m.posts → ServedBegin forwards ws vs m → ServedBegin forwards ws vs n
served_made forwards ws vs m n e p x =
    record { visited = x.visited; once = x.once; listed = e ∙ x.listed; others = x.others; counts = λ k. ap (λ z. forwards_at z.items k) p ∙ x.counts k }
