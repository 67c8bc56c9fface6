-- WHAT IS TOLD TO WHO ASKED of one slave is what its life tells.
use Rattle.std.proofs.Common.{◌≡◌, ℕ, zero, suc, Bool, true, false, Option, Some, None, List, [], ◌∷◌, ◌++◌, refl, sym, ap, ◌∙◌, subst}
use Rattle.std.specs.Prelude.{is_some, map, option_map, if◌then◌else◌}
use Rattle.life_runs.specs.Led.{Exchanged}
use Rattle.life_runs.specs.of_frame_view.Seen.{seen}
use Rattle.life_runs.specs.of_frame_view.View.{Lens}
use Rattle.life_runs.specs.of_frame_view.Shares.{AllThree}
use Rattle.life_runs.specs.of_segment_ring.declared.wire.Fate.TheVariants.{Pass}
use Rattle.life_runs.specs.of_mailbox_mail.declared.mail.Mail.{Mail}
use Rattle.life_runs.specs.of_master_duty.Reply.{Reply}
use Rattle.life_runs.specs.of_segment_model.Ends as Ends
use Rattle.life_runs.specs.of_master_hand.Passed.{body_of}
use Rattle.life_runs.specs.of_master_hand.Brings.{as_list}
use Rattle.life_runs.specs.of_master_hand.Replied.{Replies, replies_of, reply_kept}
use Rattle.life_runs.specs.of_master_hand.Shown.{awaits_reply}
use Rattle.life_runs.proofs.of_master_hand.Replies.{replies_are}
use Rattle.life_runs.specs.of_master_hand.Spoken.{Asked}
use Rattle.life_runs.specs.of_master_hand.declared.found.Found.{Found}
use Rattle.life_runs.specs.of_master_hand.declared.hand.InHand.{InHand}
use Rattle.life_runs.specs.of_master_side.Heard.{Brought}
use Rattle.life_runs.specs.of_master_side.declared.hand.Hand.{Ghosts}
use Rattle.life_runs.specs.of_master_side.declared.hand.Heard.{Heard}
use Rattle.life_runs.specs.of_master_side.declared.passing.Passing.{Passing}
use Rattle.life_runs.specs.of_link_mails.Body.{Body}
use Rattle.life_runs.specs.of_master_tour.Brings.{accepted_in}
use Rattle.life_runs.specs.of_master_tour.Passing.{StandPassing}
use Rattle.life_runs.specs.of_master_tour.Walks.{EachPair}
use Rattle.life_runs.specs.of_master_tour.declared.stop.Stand.{Stand}
use Rattle.life_runs.specs.of_life_model.Lives.{Life}
use Rattle.life_runs.specs.of_master_tour.declared.stop.Stop.{Stop}
use Rattle.life_runs.specs.Served.{Serves, ServedTurn, served_behind}
use Rattle.life_runs.specs.Told.{Passed, replies_in}
use Rattle.master_node.specs.Besides.{by_stop, reply_told}
use Rattle.master_node.specs.Gateways.{done_told, gateway_of, life_told, lives_told, replies_told}
use Rattle.master_node.specs.Handed.{work_at}
use Rattle.master_node.specs.Named.{IsHanded, IsNamed, is_left}
use Rattle.master_node.specs.Serving.{IsServed, IsServedUnder}
use Rattle.master_node.specs.Shows.{side_shows}
use Rattle.master_node.specs.declared.event.Event.{Event}
use Rattle.master_node.specs.declared.post.Post.{Post}
use Rattle.master_node.specs.declared.post.Work.{Work}
use Rattle.master_node.proofs.Filtered.{gateway_by, heard_told, over_told}
use Rattle.master_node.proofs.ServedSents.{waits_alike}
use Rattle.master_node.proofs.Serveds.{behind_open, open_stand}

-- WHAT A MAIL THAT WAS HEARD TELLS: what the hand kept of it
kept_told : (key : ℕ) (o : Option Mail) → reply_told key o ≡ replies_told key (as_list (option_map body_of o))
kept_told key None = refl
kept_told key (Some m) = refl

heard_kept : (key : ℕ) (heard : Option Heard) (f : Found) → heard_told key heard f ≡ replies_told key (replies_of heard f)
heard_kept key None f = refl
heard_kept key (Some what) f = kept_told key (reply_kept f)

heard_so : (key : ℕ) (p : Ends.Passing) (heard : Option Heard) (f : Found) (ms : List Body) → Brought (Replies f true) heard ms → heard_told key heard f ≡ replies_told key (replies_in (Some p) ms)
heard_so key p heard f ms e = heard_kept key heard f ∙ ap (replies_told key) (replies_are f true heard ms e)

-- AND THAT IT IS OVER
over_so : (key : ℕ) (p : Option Passing) (goes : Bool) → is_some p ≡ goes → over_told key p ≡ done_told key true goes
over_so key None goes e = ap (λ z. done_told key true z) e
over_so key (Some p) goes e = ap (λ z. done_told key true z) e

-- no mail is in hand, or its epoch is over
nothing_more : (b : Bool) (es : List Event) → es ≡ [] → (if b then [] else es) ≡ []
nothing_more true es e = refl
nothing_more false es e = e

life_none : (hand : Option Passed) (ms : List Body) (l m : Life Body Asked Reply) → l.era.passing ≡ None → life_told hand ms l m ≡ []
life_none None ms l m e = refl
life_none (Some q) ms l m e =
    nothing_more (is_left l.stand) (replies_told q.key (replies_in l.era.passing ms) ++ done_told q.key (is_some l.era.passing) (is_some m.era.passing))
    (ap (λ (z : Option Ends.Passing). replies_told q.key (replies_in z ms) ++ done_told q.key (is_some z) (is_some m.era.passing)) e)

life_left : (hand : Option Passed) (ms : List Body) (l m : Life Body Asked Reply) → is_left l.stand ≡ true → life_told hand ms l m ≡ []
life_left None ms l m e = refl
life_left (Some q) ms l m e = ap (λ (z : Bool). if z then [] else replies_told q.key (replies_in l.era.passing ms) ++ done_told q.key (is_some l.era.passing) (is_some m.era.passing)) e

other_told : (w : Work) (hand : Option Passed) (ms : List Body) (l m : Life Body Asked Reply) → ((key : ℕ) → w ≡ Work.Passed key → ⊥) → IsHanded w hand l → [] ≡ life_told hand ms l m
other_told w hand ms l m n h = sym (go (is_left l.stand) refl l.era.passing refl)
  where
    go : (b : Bool) → is_left l.stand ≡ b → (p : Option Ends.Passing) → l.era.passing ≡ p → life_told hand ms l m ≡ []
    go true e p f = life_left hand ms l m e
    go false e None f = life_none hand ms l m f
    go false e (Some p) f = absurd (let k = h.only e (ap (λ (z : Option Ends.Passing). is_some z) f) in n k.0 k.1)

-- OF THE MAIL IN HAND
named_told : (key : ℕ) (hand : Option Passed) (ms : List Body) (l m : Life Body Asked Reply) (heard : Option Heard) (f : Found) (p : Option Passing) → IsNamed key hand l → Brought (Replies f true) heard ms → is_some p ≡ is_some m.era.passing →
    heard_told key heard f ++ over_told key p ≡ life_told hand ms l m
named_told key None ms l m heard f p n b o = absurd (let bad : None ≡ Some n.passed = n.is in cc)
named_told key (Some q) ms l m heard f p n b o =
    let same : q ≡ n.passed = cc in
    go (ap (λ z. z.key) same ∙ n.key_is) l.era.passing refl
  where
    go : q.key ≡ key → (x : Option Ends.Passing) → l.era.passing ≡ x → heard_told key heard f ++ over_told key p ≡ life_told (Some q) ms l m
    go k None e = absurd (let bad : false ≡ true = sym (ap (λ (z : Option Ends.Passing). is_some z) e) ∙ n.passing in cc)
    go k (Some x) e =
        (λ i. heard_so key x heard f ms b i ++ over_so key p (is_some m.era.passing) o i)
        ∙ sym (λ i. if is_left (n.opened i) then [] else replies_told (k i) (replies_in (e i) ms) ++ done_told (k i) (is_some (e i)) (is_some m.era.passing))

-- ONE SLAVE: its post and its side tell what its life does
pub slave_told : {G : Ghosts InHand} (w : Work) (hand : Option Passed) (ms : List Body) (l m : Life Body Asked Reply) (s : Stop InHand G) → IsHanded w hand l →
    ((key : ℕ) → w ≡ Work.Passed key → Brought (Replies s.side.hand.found true) s.side.heard ms × (is_some s.side.passing ≡ is_some m.era.passing)) → gateway_by w s ≡ life_told hand ms l m
slave_told (Work.Passed key) hand ms l m s h b = (let here = b key refl in named_told key hand ms l m s.side.heard s.side.hand.found s.side.passing (h.named key refl) here.0 here.1)
slave_told Work.Nothing hand ms l m s h b = other_told Work.Nothing hand ms l m (λ key e. absurd (let bad : Work.Nothing ≡ Work.Passed key = e in cc)) h
slave_told Work.Mails hand ms l m s h b = other_told Work.Mails hand ms l m (λ key e. absurd (let bad : Work.Mails ≡ Work.Passed key = e in cc)) h
slave_told Work.State hand ms l m s h b = other_told Work.State hand ms l m (λ key e. absurd (let bad : Work.State ≡ Work.Passed key = e in cc)) h
slave_told Work.Packet hand ms l m s h b = other_told Work.Packet hand ms l m (λ key e. absurd (let bad : Work.Packet ≡ Work.Passed key = e in cc)) h

module _ (lens : ℕ → Lens) (recover retry : ℕ) (gives : Bool) (made : ℕ) (f : Exchanged) (octets back : List ℕ) (is : f.fate ≡ Pass) (b : f.back ≡ back) where
  abbrev behind : ServedTurn → Serves
  behind v = served_behind lens recover retry gives made f v

  -- what its hand keeps of the mail that was accepted, by whether a reply was awaited before the frame
  abbrev KeptOf : {G : Ghosts InHand} → ServedTurn → Stop InHand G → Stop InHand G → Type 0
  KeptOf v s t = Brought (Replies t.side.hand.found (awaits_reply s.side.hand.course s.side.hand.which s.side.hand.clients)) t.side.heard (accepted_in v.turn.lived.spot v.turn.lived.life (seen lens back))

  one_told : {G : Ghosts InHand} (v : ServedTurn) (p q : Post) (s t : Stop InHand G) → IsServedUnder lens recover octets made v p s → IsServed lens recover (suc made) (behind v) q t → KeptOf v s t → gateway_by p.work t ≡ gateway_of (seen lens back) v (behind v)
  one_told v p q s t i j k =
      let l = v.turn.lived.life in
      let spot = v.turn.lived.spot in
      let m = (behind v).lead.lived.life in
      let ms = accepted_in spot l (seen lens back) in
      let awaits = awaits_reply s.side.hand.course s.side.hand.which s.side.hand.clients in
      slave_told p.work v.hand ms l m t i.served.handed
      (λ key e.
      let n = i.served.handed.named key e in
      let open_s : s.stand ≡ Stand.Open = open_stand (λ d a. side_shows lens recover s spot d a) spot s.stand l i.served.lives.shown.stood n.opened in
      let open_t : t.stand ≡ Stand.Open = open_stand _ (behind v).lead.lived.spot t.stand m j.lives.shown.stood (behind_open lens recover retry gives made f back v is b n.opened n.alone) in
      let awaited : awaits ≡ true = (subst (λ z. StandPassing z awaits s.side.passing l) open_s i.served.passing).awaited (sym (waits_alike s.stand awaits s.side.passing l i.served.passing open_s) ∙ n.passing) in (
        subst (λ z. Brought (Replies t.side.hand.found z) t.side.heard ms) awaited k,
        sym (waits_alike t.stand _ t.side.passing m j.passing open_t),
      ))

  -- OF ALL SLAVES
  pub all_told : {G : Ghosts InHand} (K : Stop InHand G → Stop InHand G → Type 0) → ((v : ServedTurn) (p : Post) (s t : Stop InHand G) → IsServedUnder lens recover octets made v p s → K s t → KeptOf v s t) → (vs : List ServedTurn) (ps qs : List Post) (ss ts : List (Stop InHand G)) →
      AllThree (λ v p s. IsServedUnder lens recover octets made v p s) vs ps ss → AllThree (λ w q t. IsServed lens recover (suc made) w q t) (map behind vs) qs ts → EachPair K ss ts → (k : ℕ) → by_stop [] (λ t. gateway_by (work_at ps k) t) ts k ≡ lives_told (seen lens back) vs (map behind vs) k
  all_told K h [] ps qs ss [] i j e k = refl
  all_told K h [] ps [] ss (t ∷ ts) i j e k = absurd j
  all_told K h [] ps (q ∷ qs) ss (t ∷ ts) i j e k = absurd j
  all_told K h (v ∷ vs) [] qs [] ts i j e k = absurd i
  all_told K h (v ∷ vs) [] qs (s ∷ ss) ts i j e k = absurd i
  all_told K h (v ∷ vs) (p ∷ ps) qs [] ts i j e k = absurd i
  all_told K h (v ∷ vs) (p ∷ ps) [] (s ∷ ss) [] i j e k = absurd j
  all_told K h (v ∷ vs) (p ∷ ps) [] (s ∷ ss) (t ∷ ts) i j e k = absurd j
  all_told K h (v ∷ vs) (p ∷ ps) (q ∷ qs) (s ∷ ss) [] i j e k = absurd e
  all_told K h (v ∷ vs) (p ∷ ps) (q ∷ qs) (s ∷ ss) (t ∷ ts) i j e zero = one_told v p q s t i.0 j.0 (h v p s t i.0 e.0)
  all_told K h (v ∷ vs) (p ∷ ps) (q ∷ qs) (s ∷ ss) (t ∷ ts) i j e (suc k) = all_told K h vs ps qs ss ts i.1 j.1 e.1 k
