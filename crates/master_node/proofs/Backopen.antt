-- WHAT AN OPEN SLAVE TELLS behind a frame that came back, by its side and account, and what its post has in hand then.
use Rattle.std.proofs.Common.{◌≡◌, ℕ, Bool, true, false, Option, Some, None, List, [], ◌++◌, length, refl, sym, ap, ◌∙◌, subst, append_assoc, append-nil}
use Rattle.std.specs.Prelude.{◌&&◌, not, is_some, option_map}
use Rattle.life_runs.specs.of_exchange_model.Areas.{Areas}
use Rattle.life_runs.specs.of_mailbox_mail.declared.mail.Mail.{Mail}
use Rattle.life_runs.specs.of_master_duty.Reply.{Reply}
use Rattle.life_runs.specs.of_exchange_model.Exchange.{Speech, plain}
use Rattle.life_runs.specs.of_exchange_model.Rows.{Row}
use Rattle.life_runs.specs.of_segment_model.Ends as Ends
use Rattle.life_runs.specs.of_segment_model.Seats.{Side}
use Rattle.life_runs.specs.of_state_model.Accounts.{Account, Duty, is_free}
use Rattle.life_runs.proofs.of_master_hand.Replies.{replies_are}
use Rattle.life_runs.specs.of_master_hand.Brings.{Brings, as_list, emergencies_in, emergency_in}
use Rattle.life_runs.specs.of_master_hand.Passed.{body_of}
use Rattle.life_runs.specs.of_master_hand.Replied.{Replies, replies_of, reply_kept}
use Rattle.life_runs.specs.of_master_hand.Shown.{Shows, knows}
use Rattle.life_runs.specs.of_master_hand.Spoken.{Asked, emission, ends, hand_speech}
use Rattle.life_runs.specs.of_master_hand.contracts.hand.InHandHand.TheImpl as Impl
use Rattle.life_runs.specs.of_master_hand.declared.hand.InHand.{InHand}
use Rattle.life_runs.specs.of_master_side.Heard.{Brought}
use Rattle.life_runs.specs.of_master_side.Shown.{SideShows}
use Rattle.life_runs.specs.of_master_side.declared.hand.Heard.{Heard}
use Rattle.life_runs.specs.of_master_side.declared.passing.Passing.{Passing}
use Rattle.life_runs.specs.of_link_mails.Body.{Body}
use Rattle.life_runs.specs.of_master_tour.declared.stop.Stand.{Stand}
use Rattle.life_runs.specs.of_master_tour.declared.stop.Stop.{Stop}
use Rattle.life_runs.specs.Told.{Passed, replies_in}
use Rattle.master_node.specs.Backtold.{HasPassed, NewestHas, OpenHas, ServiceHas, answer_told, changes_told, emergencies_told, ended_told, has_packet, kind_of, packet_told, passed_told}
use Rattle.master_node.specs.Begins.{is_other}
use Rattle.master_node.specs.Besides.{Does, behind, emergency_told, heard_does, met_at, met_where, over_does, passed_where, reply_told, stays, then_does}
use Rattle.master_node.specs.Gateways.{replies_told}
use Rattle.master_node.specs.declared.event.Event.{Event}
use Rattle.master_node.specs.declared.post.Work.{Work}
use Rattle.master_node.proofs.Changes.{StateHas, Went, none_more, state_tells}
use Rattle.master_node.proofs.FreePackets.{free_packet}
use Rattle.master_node.proofs.PacketRows.{heard_unanswered, stays_over}
use Rattle.master_node.proofs.Rowtells.{IsQuiet, NewestTells, RowShown, heard, kept_kind, kind_told, mails_does, mails_still, newest_nothing, newest_rests, passed_kind, passed_other, rest_does}

-- ---- THE EMERGENCIES
emergency_is : (place : ℕ) (o : Option (List ℕ)) → emergency_told place o ≡ emergencies_told place (as_list o ++ [])
emergency_is place None = refl
emergency_is place (Some octets) = refl

-- what is told first
pub heard_is : (place : ℕ) (got : Option Heard) (ms : List Body) (t : Stop InHand Impl.ghosts) (work : Work) → Brought (Brings t.side.hand.found) got ms → heard_does place got t work ≡ behind (emergencies_told place (emergencies_in ms)) (mails_does place got t work)
heard_is place None ms t work e = sym (ap (λ z. behind (emergencies_told place (emergencies_in z)) (stays work)) e)
heard_is place (Some what) ms t work b =
    ap (λ z. behind z (mails_does place (Some what) t work)) (ap (emergency_told place) b.2 ∙ emergency_is place (emergency_in b.0)) ∙ sym (ap (λ z. behind (emergencies_told place (emergencies_in z)) (mails_does place (Some what) t work)) b.1)

-- ---- A MAIL THAT IS PASSED ON
kept_told : (key : ℕ) (o : Option Mail) → reply_told key o ≡ replies_told key (as_list (option_map body_of o))
kept_told key None = refl
kept_told key (Some m) = refl

-- its replies
replied_is : (place key : ℕ) (got : Option Heard) (ms : List Body) (t : Stop InHand Impl.ghosts) (p : Ends.Passing) → Brought (Replies t.side.hand.found true) got ms →
    mails_does place got t (Work.Passed key) ≡ record { told = replies_told key (replies_in (Some p) ms); work = Work.Passed key }
replied_is place key got ms t p b = go got ∙ ap (λ z. record { told = replies_told key z; work = Work.Passed key }) (replies_are t.side.hand.found true got ms b)
  where
    go : (got : Option Heard) → mails_does place got t (Work.Passed key) ≡ record { told = replies_told key (replies_of got t.side.hand.found); work = Work.Passed key }
    go None = refl
    go (Some what) = ap (λ z. record { told = z; work = Work.Passed key }) (kept_told key (reply_kept t.side.hand.found))

-- and its end
abbrev ends_so : ℕ → Bool → Does
ends_so key true = stays (Work.Passed key)
ends_so key false = record { told = []; work = Work.Nothing }

ended_is : (place key : ℕ) (passing : Option Passing) (p : Option Ends.Passing) → is_some passing ≡ is_some p → passed_where place key passing (Work.Passed key) ≡ record { told = ended_told place key true (is_some p); work = (ends_so key (is_some p)).work }
ended_is place key None p e = ap (λ z. record { told = ended_told place key true z; work = (ends_so key z).work }) e
ended_is place key (Some passing) p e = ap (λ z. record { told = ended_told place key true z; work = (ends_so key z).work }) e

none_passed : (place : ℕ) (hand : Option Passed) (ms : List Body) → passed_told place hand None None ms ≡ []
none_passed place None ms = refl
none_passed place (Some p) ms = refl

-- ---- ALL TOGETHER
module _ (areas : Areas) (place frame : ℕ) (ms : List Body) (known known' : Bool) (hand : Option Passed) (t : Stop InHand Impl.ghosts) (d f : Side Body Asked Reply) (a b : Account Asked Reply) where
  abbrev x : Speech Body Asked Reply
  x = hand_speech areas

  -- of the mails, behind the emergencies
  abbrev pub told_of : Option Ends.Passing → Option Ends.Passing → List Event
  told_of p q =
      passed_told place hand p q ms ++ answer_told place (kind_of d.now) (kind_of f.now) ++ packet_told place (has_packet d.now) known' (is_free x d d.now) (is_free x f f.now) ++ changes_told place (length a.over) b.over

  abbrev rows_told : List Event
  rows_told = answer_told place (kind_of d.now) (kind_of f.now) ++ packet_told place (has_packet d.now) known' (is_free x d d.now) (is_free x f f.now)

  -- what is asked of the sides before the frame and behind it, and of the stop, which is open
  pub record Behind (p q : Option Ends.Passing) (old : Work) : Type 0 where
    pub stand : t.stand ≡ Stand.Open
    pub now : f.now ≡ option_map (heard areas place frame ms known known' t) d.now
    pub held : d.halves.out.holding ≡ None → f.halves.out.holding ≡ None
    pub sent : d.fresh ≡ false → f.fresh ≡ false
    pub went : (duty : Duty) → a.hand ≡ Some duty → Went a.over b.hand b.over
    pub stays : a.hand ≡ None → b ≡ a
    pub shown : SideShows (Shows t.side.hand.course t.side.hand.which t.side.hand.clients x) t.side.out t.side.inn t.side.fresh t.side.duty f b
    pub passing : is_some t.side.passing ≡ is_some q
    pub knows_is : knows t.side.hand.course ≡ known'
    pub sure : known' ≡ true → known ≡ true
    pub quiet : IsQuiet x d.now
    pub none : t.side.heard ≡ None → ms ≡ []
    pub named : (key : ℕ) → old ≡ Work.Passed key → (z : Passed) × (hand ≡ Some z) × (z.key ≡ key)
    pub replies : (key : ℕ) → old ≡ Work.Passed key → Brought (Replies t.side.hand.found true) t.side.heard ms

  -- it tells this, and has that in hand
  pub record Tells (p q : Option Ends.Passing) (hand' : Option Duty) (w : Does) : Type 0 where
    pub is : w.told ≡ told_of p q
    pub has : OpenHas x known' f hand' q w.work

  abbrev pub row_heard' : Row Body Asked Reply → Row Body Asked Reply
  row_heard' r = heard areas place frame ms known known' t r

  -- a packet that is over stays so
  packets_stay : (r : Row Body Asked Reply) → d.now ≡ Some r → f.now ≡ option_map row_heard' d.now → (d.halves.out.holding ≡ None → f.halves.out.holding ≡ None) → (d.fresh ≡ false → f.fresh ≡ false) → is_other r.service ≡ false → is_free x d d.now ≡ true → is_free x f f.now ≡ true
  packets_stay r e n h sent o g =
      ap (λ z. is_free x f z) (n ∙ ap (λ z. option_map row_heard' z) e) ∙ stays_over areas d f r (row_heard' r) o (record { service = refl; told = refl; answer = heard_unanswered areas frame ms r o }) h sent (sym (ap (λ z. is_free x d z) e) ∙ g)

  as_heard : (w : Does) → f.now ≡ option_map row_heard' d.now → NewestTells areas place frame ms known known' t d.now (is_free x d d.now) (is_free x f f.now) w → (w.told ≡ rows_told) × NewestHas (is_free x f f.now) known' f.now w.work
  as_heard w k n = (
    n.is ∙ sym (ap (λ z. answer_told place (kind_of d.now) (kind_of z) ++ packet_told place (has_packet d.now) known' (is_free x d d.now) (is_free x f f.now)) k),
    subst (λ z. NewestHas (is_free x f f.now) known' z w.work) (sym k) n.has,
  )

  -- the rows by which the newest service tells
  shown_row : (q : Option Ends.Passing) (old : Work) → Behind None q old → q ≡ None → b.hand ≡ None → (r : Row Body Asked Reply) → d.now ≡ Some r → RowShown areas place frame ms known known' t r (is_free x d d.now) (is_free x f f.now)
  shown_row q old k n h r e = record {
    quiet = λ g. k.quiet r e g;
    none = k.none;
    kept = kept_kind t.side.hand x f.now k.shown.row ∙ ap kind_of (k.now ∙ ap (λ z. option_map row_heard' z) e);
    stays = λ o g. packets_stay r e k.now k.held k.sent o g;
    side_free = λ o. free_packet t.side x f b (row_heard' r) k.shown h (none_some t.side.passing q k.passing n) (k.now ∙ ap (λ z. option_map row_heard' z) e) o ∙ ap (λ z. z && is_free x f f.now) k.knows_is;
    sure = k.sure;
  }
    where
      none_some : (o : Option Passing) (z : Option Ends.Passing) → is_some o ≡ is_some z → z ≡ None → o ≡ None
      none_some None z g m = refl
      none_some (Some v) z g m = absurd (let bad : true ≡ false = g ∙ ap (λ (y : Option Ends.Passing). is_some y) m in cc)

  -- nothing is told of changes of state where none was in hand
  none_changed : b ≡ a → changes_told place (length a.over) b.over ≡ []
  none_changed e = ap (λ (z : Account Asked Reply). changes_told place (length a.over) z.over) e ∙ none_more place a.over

  -- A SERVICE BY MAILS, over or not
  mails_tell : (old : Work) → Behind None None old → a.hand ≡ None → OpenHas x known d None None old → Tells None None None (rest_does place t old)
  mails_tell old k n h =
      let same = k.stays n in
      let w = as_heard (rest_does place t old) k.now (newest_rests areas place frame ms known known' t d.now (is_free x d d.now) (is_free x f f.now) old (shown_row None old k refl (ap (λ z. z.hand) same ∙ n)) h) in
      record {
        is = w.0
            ∙ sym (append-nil rows_told)
            ∙ ap (λ z. rows_told ++ z) (sym (none_changed same))
            ∙ sym (ap (λ z. z ++ answer_told place (kind_of d.now) (kind_of f.now) ++ packet_told place (has_packet d.now) known' (is_free x d d.now) (is_free x f f.now) ++ changes_told place (length a.over) b.over) (none_passed place hand ms));
        has = w.1;
      }

  -- A CHANGE OF STATE
  pub nothing_rows : f.now ≡ option_map row_heard' d.now → (d.halves.out.holding ≡ None → f.halves.out.holding ≡ None) → (d.fresh ≡ false → f.fresh ≡ false) → NewestHas (is_free x d d.now) known d.now Work.Nothing → ([] ≡ rows_told) × NewestHas (is_free x f f.now) known' f.now Work.Nothing
  nothing_rows n k sent h = as_heard (stays Work.Nothing) n (newest_nothing areas place frame ms known known' t d.now (is_free x d d.now) (is_free x f f.now) (λ r e o g. packets_stay r e n k sent o g) h)

  pub rows_then : (C : List Event) → changes_told place (length a.over) b.over ≡ C → [] ≡ rows_told → C ≡ told_of None None
  rows_then C e r =
      sym e ∙ ap (λ z. z ++ changes_told place (length a.over) b.over) r
      ∙ sym (ap (λ z. z ++ answer_told place (kind_of d.now) (kind_of f.now) ++ packet_told place (has_packet d.now) known' (is_free x d d.now) (is_free x f f.now) ++ changes_told place (length a.over) b.over) (none_passed place hand ms))

  pub state_rest : rest_does place t Work.State ≡ over_does place t Work.State
  state_rest = ap (λ z. then_does z (λ w. over_does place t w)) (mails_still place t.side.heard t Work.State refl)

  state_tell : (old : Work) (duty : Duty) → Behind None None old → a.hand ≡ Some duty → OpenHas x known d (Some duty) None old → Tells None None b.hand (rest_does place t old)
  state_tell old duty k e h =
      let s = state_tells place a.over b.over b.hand t.side.duty (k.went duty e) k.shown.state k.shown.over in
      let r = nothing_rows k.now k.held k.sent h.1 in
      subst (λ z. Tells None None b.hand (rest_does place t z)) (sym h.2)
      (subst (λ z. Tells None None b.hand z) (sym (state_rest ∙ ap (λ z. met_at place z t.side.duty Work.State) k.stand))
      (record {
        is = s.is ∙ rows_then (changes_told place (length a.over) b.over) refl r.0;
        has = by b.hand s.has r.1;
      }))
    where
      by : (hand' : Option Duty) → StateHas hand' (met_where place t.side.duty Work.State).work → NewestHas (is_free x f f.now) known' f.now Work.Nothing → OpenHas x known' f hand' None (met_where place t.side.duty Work.State).work
      by None s r = subst (λ z. NewestHas (is_free x f f.now) known' f.now z) (sym s) r
      by (Some k) s r = (refl, r, s)

  -- A MAIL THAT IS PASSED ON
  passed_rows : HasPassed d.now → f.now ≡ option_map row_heard' d.now → (rows_told ≡ []) × HasPassed f.now × ((free : Bool) → NewestHas free known' f.now Work.Nothing)
  passed_rows p n =
      let e : f.now ≡ Some (row_heard' p.row) = n ∙ ap (λ z. option_map row_heard' z) p.is in (
        (λ i. answer_told place (kind_of (p.is i)) (kind_of (e i)) ++ packet_told place (has_packet (p.is i)) known' (is_free x d d.now) (is_free x f f.now))
            ∙ (λ i. kind_told place frame p.row.answer (ends areas p.row.service (plain emission (p.row.heard ++ ms))) (passed_kind areas p.row.service (plain emission (p.row.heard ++ ms)) p.passed) i ++ packet_told place (not (passed_other p.row.service p.passed i)) known' (is_free x d d.now) (is_free x f f.now)),
        record { row = row_heard' p.row; is = e; passed = p.passed },
        λ free. subst (λ z. NewestHas free known' z Work.Nothing) (sym e) (subst (λ z. ServiceHas z (is_other p.row.service) free known' (is_some (row_heard' p.row).answer) Work.Nothing) (sym p.passed) refl),
      )

  -- what is told of it
  abbrev passed_does : Ends.Passing → Option Ends.Passing → ℕ → Does
  passed_does p q key = record { told = replies_told key (replies_in (Some p) ms) ++ ended_told place key true (is_some q); work = (ends_so key (is_some q)).work }

  passed_rest : (p : Ends.Passing) (q : Option Ends.Passing) (key : ℕ) → Brought (Replies t.side.hand.found true) t.side.heard ms → is_some t.side.passing ≡ is_some q → rest_does place t (Work.Passed key) ≡ passed_does p q key
  passed_rest p q key b s =
      ap (λ z. then_does z (λ w. over_does place t w)) (replied_is place key t.side.heard ms t p b) ∙ ap (λ z. behind (replies_told key (replies_in (Some p) ms)) z) (ended_is place key t.side.passing q s)

  with_rows : (es : List Event) → rows_told ≡ [] → es ≡ es ++ answer_told place (kind_of d.now) (kind_of f.now) ++ packet_told place (has_packet d.now) known' (is_free x d d.now) (is_free x f f.now)
  with_rows es r =
      sym (append-nil es) ∙ ap (λ z. es ++ z) (sym r)
      ∙ sym (append_assoc es (answer_told place (kind_of d.now) (kind_of f.now)) (packet_told place (has_packet d.now) known' (is_free x d d.now) (is_free x f f.now)))

  with_changes : (es : List Event) → b ≡ a → es ≡ es ++ changes_told place (length a.over) b.over
  with_changes es s = sym (append-nil es) ∙ ap (λ z. es ++ z) (sym (none_changed s))

  passed_tell : (p : Ends.Passing) (q : Option Ends.Passing) (old : Work) → Behind (Some p) q old → a.hand ≡ None → OpenHas x known d None (Some p) old → Tells (Some p) q None (rest_does place t old)
  passed_tell p q old k n h =
      let key = h.1.0 in
      let z = k.named key h.1.1 in
      let r = passed_rows h.0 k.now in
      subst (λ y. Tells (Some p) q None (rest_does place t y)) (sym h.1.1)
      (subst (λ y. Tells (Some p) q None y) (sym (passed_rest p q key (k.replies key h.1.1) k.passing))
      (record {
        is = ap (λ y. replies_told y (replies_in (Some p) ms) ++ ended_told place y true (is_some q)) (sym z.2)
            ∙ with_rows (passed_told place (Some z.0) (Some p) q ms) r.0
            ∙ with_changes (passed_told place (Some z.0) (Some p) q ms ++ answer_told place (kind_of d.now) (kind_of f.now) ++ packet_told place (has_packet d.now) known' (is_free x d d.now) (is_free x f f.now)) (k.stays n)
            ∙ sym (ap (λ y. passed_told place y (Some p) q ms ++ answer_told place (kind_of d.now) (kind_of f.now) ++ packet_told place (has_packet d.now) known' (is_free x d d.now) (is_free x f f.now) ++ changes_told place (length a.over) b.over) z.1);
        has = by q r.1 r.2;
      }))
    where
      by : (q : Option Ends.Passing) → HasPassed f.now → ((free : Bool) → NewestHas free known' f.now Work.Nothing) → OpenHas x known' f None q (ends_so h.1.0 (is_some q)).work
      by None p n = n (is_free x f f.now)
      by (Some v) p n = (p, (h.1.0, refl))

  -- BY WHAT IS IN HAND
  pub open_tells : (p q : Option Ends.Passing) (old : Work) → Behind p q old → (p ≡ None → q ≡ None) → OpenHas x known d a.hand p old → Tells p q b.hand (rest_does place t old)
  open_tells p q old k n h = go a.hand refl p q n k h
    where
      none_there : a.hand ≡ None → b ≡ a → b.hand ≡ None
      none_there e s = ap (λ (z : Account Asked Reply). z.hand) s ∙ e

      go : (hand' : Option Duty) → a.hand ≡ hand' → (p q : Option Ends.Passing) → (p ≡ None → q ≡ None) → Behind p q old → OpenHas x known d hand' p old → Tells p q b.hand (rest_does place t old)
      go None e None q n k h = subst (λ z. Tells None z b.hand (rest_does place t old)) (sym (n refl)) (subst (λ z. Tells None None z (rest_does place t old)) (sym (none_there e (k.stays e))) (mails_tell old (subst (λ z. Behind None z old) (n refl) k) e h))
      go None e (Some p) q n k h = subst (λ z. Tells (Some p) q z (rest_does place t old)) (sym (none_there e (k.stays e))) (passed_tell p q old k e h)
      go (Some duty) e None q n k h = subst (λ z. Tells None z b.hand (rest_does place t old)) (sym (n refl)) (state_tell old duty (subst (λ z. Behind None z old) (n refl) k) e h)
      go (Some duty) e (Some p) q n k h = absurd (let bad : Some p ≡ None = h.0 in cc)
