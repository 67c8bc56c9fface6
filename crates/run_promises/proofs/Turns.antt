-- ONE SLAVE BY A FRAME: the mails that its master accepts of it are those that its epoch hears.
use Rattle.std.proofs.Common.{◌≡◌, ◌⊎◌, inl, inr, ℕ, ◌==◌, ◌&&◌, Bool, true, false, not, Option, Some, None, List, [], ◌∷◌, ◌++◌, length, refl, sym, ap, ◌∙◌, subst, arith, append-nil, if◌then◌else◌}
use Rattle.std.proofs.lemmas.Bool.{eqb-true, eq-eqb}
use Rattle.packets_heard.specs.of_datagrams.Datagram as Raw
use Rattle.packets_heard.specs.of_datagrams.declared.command.Command.TheVariants.{Fprd, Fpwr}
use Rattle.packets_heard.specs.of_exchange_model.Exchange.{Speech}
use Rattle.packets_heard.specs.of_frame_view.Seen.{seen, datagrams_seen}
use Rattle.packets_heard.specs.of_frame_view.View.{Lens, ask_of, access_of, read_ask, read_access, datagram_seen, station_of}
use Rattle.packets_heard.specs.of_frame_view.Frames.{FrameFor, IsOpenGram, Share}
use Rattle.packets_heard.specs.of_frame_view.Shares.{Lived, IsNext, came_at, given_where, lived_back, lived_lost}
use Rattle.packets_heard.proofs.of_frame_view.Frames.{own_none, own_one}
use Rattle.packets_heard.specs.of_life_model.Eras.{era_frames}
use Rattle.packets_heard.specs.of_life_model.Lives.{Spot, Era, Life, Stand, era_back, granted, life_next, life_back, life_lost, reopens, reopens_at, reopening, opens_state, returns_to_init}
use Rattle.packets_heard.specs.of_life_model.Own.{own}
use Rattle.packets_heard.specs.of_life_runs.Led.{Exchanged, Leads, Turn, IsTurn, is_passed, speech_at, life_behind}
use Rattle.packets_heard.specs.of_link_mails.Body.{Body}
use Rattle.packets_heard.specs.of_link_model.Frames.{Ask, all_accepted, halves_accept}
use Rattle.packets_heard.specs.of_link_model.Link.{Halves}
use Rattle.packets_heard.specs.of_master_duty.Reply.{Reply}
use Rattle.packets_heard.specs.of_master_hand.Spoken.{Asked, acknowledged, is_followed}
use Rattle.packets_heard.specs.of_master_side.Passing.{news_back, news_lost}
use Rattle.packets_heard.specs.of_master_tour.Brings.{accepted_at}
use Rattle.packets_heard.specs.Heard.{Times, ended, mails_by, times_behind}
use Rattle.packets_heard.specs.of_segment_model.Record.{Frame, News, heard, is_for}
use Rattle.packets_heard.specs.of_segment_model.Returned.{Returns}
use Rattle.packets_heard.specs.of_segment_model.Slaves.{Access, Datagram, grams}
use Rattle.packets_heard.specs.of_segment_ring.declared.wire.Fate.{Fate}
use Rattle.packets_heard.specs.of_segment_ring.declared.wire.Fate.TheVariants.{Pass, Lost}
use Rattle.served_rings.proofs.SideHeard.{next_heard, next_inn}
use Rattle.packets_heard.specs.of_life_runs.Served.{Serves, ServedTurn, IsServedTurn, served_life}
use Rattle.packets_heard.specs.of_state_model.Stated.{Service}
use Rattle.packets_heard.specs.of_state_model.Accounts.{Account, Duty, Stage, account_back, account_met, account_by, access_done}
use Rattle.packets_heard.specs.of_state_model.Promise.{services_in}
use Rattle.served_rings.specs.of_slave_lives.Rings.{fate_seen}
use Rattle.run_promises.proofs.Calm.{IsCalm, back_heard, begins_more, begins_calm}
use Rattle.run_promises.proofs.Live.{Grows, IsLive, IsTally}
use Rattle.run_promises.proofs.Times.{TracksOpen, TracksShut, TracksAs, Tracks, shut_now, gives_tracks, opening_tracks, shut_stays, gone_tracks, over_shuts, open_tracks}

-- ---- a datagram that reads mailbox 1 accesses nothing else
abbrev else_asks : Bool → Bool → Ask Body
else_asks a b = if a then (if b then Ask.ReadAcknowledge else Ask.Other) else Ask.Other

abbrev read_asks : Bool → Bool → Ask Body → Ask Body
read_asks a b more = if a then (if b then Ask.ReadMail else Ask.Other) else more

read_alone : (lens : Lens) (ado len : ℕ) → read_ask lens ado len ≡ Ask.ReadMail → read_access ado len ≡ Access.Elsewhere
read_alone lens ado len e = go (ado == 6144) refl
  where
    not_else : (a b : Bool) → else_asks a b ≡ Ask.ReadMail → ⊥
    not_else true true f = absurd (cc)
    not_else true false f = absurd (cc)
    not_else false b f = absurd (cc)

    go : (b : Bool) → (ado == 6144) ≡ b → read_access ado len ≡ Access.Elsewhere
    go true f = subst (λ n. read_access n len ≡ Access.Elsewhere) (sym (eqb-true ado 6144 f)) refl
    go false f = absurd (not_else (ado == 2063) (len == 1) (sym (ap (λ (b : Bool). read_asks b (len == lens.back) (else_asks (ado == 2063) (len == 1))) f) ∙ e))

-- of the two commands by station
mail_read : (lens : ℕ → Lens) (d : Raw.Datagram) → (d.head.command ≡ Fprd) ⊎ (d.head.command ≡ Fpwr) → (datagram_seen lens d).gram.ask ≡ Ask.ReadMail → (datagram_seen lens d).access ≡ Access.Elsewhere
mail_read lens d (inl c) e =
    let at = lens (station_of d.head.command d.head.adp) in
    ap (λ k. access_of at k d.head.ado d.body) c ∙ read_alone at d.head.ado (length d.body) (sym (ap (λ k. ask_of at k d.head.ado d.body) c) ∙ e)
mail_read lens d (inr c) e =
    let at = lens (station_of d.head.command d.head.adp) in
    absurd (never at d.head.ado d.body (sym (ap (λ k. ask_of at k d.head.ado d.body) c) ∙ e))
  where
    never : (at : Lens) (ado : ℕ) (octets : List ℕ) → ask_of at Fpwr ado octets ≡ Ask.ReadMail → ⊥
    never at ado octets e = by (ado == 4096) (length octets == at.out) (ado == 2062) (length octets == 1) e
      where
        by : (a b c d : Bool) → (if a then (if b then Ask.WriteMail (Rattle.packets_heard.specs.of_link_mails.Body.link_read (Rattle.served_rings.specs.of_mailbox_mail.Mail.mail_read octets)) else Ask.Other) else if c then (if d then Ask.WriteRequest (Rattle.packets_heard.specs.of_link_mails.Body.bit_1 (Rattle.std.specs.Prelude.slice_index octets 0)) else Ask.Other) else Ask.Other) ≡ Ask.ReadMail → ⊥
        by true true c d f = absurd (cc)
        by true false c d f = absurd (cc)
        by false b true true f = absurd (cc)
        by false b true false f = absurd (cc)
        by false b false d f = absurd (cc)

-- ---- the one datagram of a frame that came back, or none
pub data IsOne (station : ℕ) (back : List (Datagram Body)) : Type 0 where
  empty : own station back ≡ [] → IsOne station back
  single : (b : Datagram Body) → own station back ≡ b ∷ [] → (b.gram.ask ≡ Ask.ReadMail → b.access ≡ Access.Elsewhere) → IsOne station back

abbrev kept_of : ℕ → Datagram Body → Datagram Body → List (Datagram Body) → List (Datagram Body) → Bool → Bool → Type 0
kept_of station s b sent back c d = Returns (if c then s ∷ own station sent else own station sent) (if d then b ∷ own station back else own station back)

own_returned : (station : ℕ) (sent back : List (Datagram Body)) → Returns sent back → Returns (own station sent) (own station back)
own_returned station [] [] r = tt
own_returned station [] (b ∷ back) r = absurd r
own_returned station (s ∷ sent) [] r = absurd r
own_returned station (s ∷ sent) (b ∷ back) r = go (is_for station s.address) refl (own_returned station sent back r.1)
  where
    go : (c : Bool) → is_for station s.address ≡ c → Returns (own station sent) (own station back) → kept_of station s b sent back (is_for station s.address) (is_for station b.address)
    go true e rest = subst (λ (d : Bool). kept_of station s b sent back (is_for station s.address) d) (sym (r.0.address station ∙ e)) (subst (λ (c : Bool). kept_of station s b sent back c true) (sym e) (r.0, rest))
    go false e rest = subst (λ (d : Bool). kept_of station s b sent back (is_for station s.address) d) (sym (r.0.address station ∙ e)) (subst (λ (c : Bool). kept_of station s b sent back c false) (sym e) rest)

by_station : (lens : ℕ → Lens) (station : ℕ) (d : Raw.Datagram) → IsOpenGram station d → is_for station (datagram_seen lens d).address ≡ true
by_station lens station d o = go o.to.command
  where
    same : (station == station) ≡ true
    same = eq-eqb station station refl

    go : (d.head.command ≡ Fprd) ⊎ (d.head.command ≡ Fpwr) → is_for station (datagram_seen lens d).address ≡ true
    go (inl c) = (λ i. is_for station (Rattle.packets_heard.specs.of_frame_view.View.address_of (c i) d.head.adp)) ∙ ap (λ n. n == station) o.to.adp ∙ same
    go (inr c) = (λ i. is_for station (Rattle.packets_heard.specs.of_frame_view.View.address_of (c i) d.head.adp)) ∙ ap (λ n. n == station) o.to.adp ∙ same

one_of : (sent back : List (Datagram Body)) (station : ℕ) (s : Datagram Body) → Returns sent back → own station sent ≡ s ∷ [] → (s.gram.ask ≡ Ask.ReadMail → s.access ≡ Access.Elsewhere) → IsOne station back
one_of sent back station s r e alone = go (own station back) refl (subst (λ (l : List (Datagram Body)). Returns l (own station back)) e (own_returned station sent back r))
  where
    go : (l : List (Datagram Body)) → own station back ≡ l → Returns (s ∷ []) l → IsOne station back
    go [] f x = absurd x
    go (b ∷ []) f x = IsOne.single b f (λ reads. x.0.access ∙ alone (sym x.0.ask ∙ reads))
    go (b ∷ (c ∷ more)) f x = absurd x.1

module _ (lens : ℕ → Lens) (sent back : List (Datagram Body)) (ds : List Raw.Datagram) (is : sent ≡ datagrams_seen lens ds) (r : Returns sent back) (spot : Spot) where
  one_back : (share : Share) → FrameFor lens spot Stand.Open share ds → IsOne spot.station back
  one_back share (FrameFor.none under not_) = IsOne.empty (none_of sent back r (ap (own spot.station) is ∙ own_none lens spot ds not_))
    where
      none_of : (sent back : List (Datagram Body)) → Returns sent back → own spot.station sent ≡ [] → own spot.station back ≡ []
      none_of sent back r e = go (own spot.station back) refl (subst (λ (l : List (Datagram Body)). Returns l (own spot.station back)) e (own_returned spot.station sent back r))
        where
          go : (l : List (Datagram Body)) → own spot.station back ≡ l → Returns [] l → own spot.station back ≡ []
          go [] f x = f
          go (b ∷ l) f x = absurd x
  one_back share (FrameFor.one under d has gram) =
      one_of sent back spot.station (datagram_seen lens d) r (ap (own spot.station) is ∙ own_one lens spot share.at d ds has (by_station lens spot.station d gram)) (mail_read lens d gram.to.command)

-- ---- where the slave is returned to Init by a frame, that brought no mail
no_mail : (station : ℕ) (h : Halves Body) (b : Datagram Body) → (b.gram.ask ≡ Ask.ReadMail → ⊥) → all_accepted station h (grams (b ∷ [])) ≡ []
no_mail station h b not_ = ap (λ (l : List Body). l ++ []) (go (b.gram.station == station))
  where
    asks : (a : Ask Body) → b.gram.ask ≡ a → halves_accept h a b.gram ≡ []
    asks (Ask.WriteMail m) e = refl
    asks Ask.ReadMail e = absurd (not_ e)
    asks (Ask.WriteRequest bit) e = refl
    asks Ask.ReadAcknowledge e = refl
    asks Ask.Other e = refl

    go : (c : Bool) → (if c then halves_accept h b.gram.ask b.gram else []) ≡ []
    go true = asks b.gram.ask refl
    go false = refl

elsewhere_stays : {Q R : Type 0} (station made : ℕ) (a : Account Q R) (b : Datagram Body) → b.access ≡ Access.Elsewhere → (account_back station made a (b ∷ [])).hand ≡ a.hand
elsewhere_stays station made a b e = go a.hand refl
  where
    go : (hand : Option Duty) → a.hand ≡ hand → (account_met station made a hand b).hand ≡ a.hand
    go None f = refl
    go (Some duty) f = by (is_for station b.address && not (b.counter == 0))
      where
        by : (c : Bool) → (if c then account_by made a duty (access_done duty.target duty.stage b.access b.found) else a).hand ≡ a.hand
        by true = ap (λ (z : Access). (account_by made a duty (access_done duty.target duty.stage z b.found)).hand) e ∙ sym f
        by false = refl

module _ {Q R : Type 0} (station made : ℕ) (h : Halves Body) (a : Account Q R) (back : List (Datagram Body)) (calm : IsCalm a.hand) (one : IsOne station back) where
  abbrev after : Account Q R
  after = account_back station made a (own station back)

  -- the state service in hand still drains, or the frame brought no mail
  brings : (duty : Duty) → after.hand ≡ Some duty → returns_to_init duty.target ≡ true → (duty.stage ≡ Stage.Drains) ⊎ (all_accepted station h (grams (own station back)) ≡ [])
  brings duty e returns = of one
    where
      of : IsOne station back → (duty.stage ≡ Stage.Drains) ⊎ (all_accepted station h (grams (own station back)) ≡ [])
      of (IsOne.empty f) = inr (ap (λ l. all_accepted station h (grams l)) f)
      of (IsOne.single b f alone) = by b.gram.ask refl
        where
          others : (b.gram.ask ≡ Ask.ReadMail → ⊥) → (duty.stage ≡ Stage.Drains) ⊎ (all_accepted station h (grams (own station back)) ≡ [])
          others not_ = inr (ap (λ l. all_accepted station h (grams l)) f ∙ no_mail station h b not_)

          by : (k : Ask Body) → b.gram.ask ≡ k → (duty.stage ≡ Stage.Drains) ⊎ (all_accepted station h (grams (own station back)) ≡ [])
          by Ask.ReadMail g = inl (calm duty (sym (elsewhere_stays station made a b (alone g)) ∙ ap (λ (l : List (Datagram Body)). (account_back station made a l).hand) (sym f) ∙ e) returns)
          by (Ask.WriteMail m) g = others (λ reads. absurd (let bad : Ask.WriteMail m ≡ Ask.ReadMail = sym g ∙ reads in cc))
          by (Ask.WriteRequest bit) g = others (λ reads. absurd (let bad : Ask.WriteRequest bit ≡ Ask.ReadMail = sym g ∙ reads in cc))
          by Ask.ReadAcknowledge g = others (λ reads. absurd (let bad : Ask.ReadAcknowledge ≡ Ask.ReadMail = sym g ∙ reads in cc))
          by Ask.Other g = others (λ reads. absurd (let bad : Ask.Other ≡ Ask.ReadMail = sym g ∙ reads in cc))

-- what came into hand stays
started_same : {Q R : Type 0} (station made : ℕ) (a : Account Q R) (ds : List (Datagram Body)) → (account_back station made a ds).started ≡ a.started
started_same station made a [] = refl
started_same {R = R} station made a (d ∷ ds) = started_same station made (account_met station made a a.hand d) ds ∙ go a.hand
  where
    by : (duty : Duty) (p : Rattle.packets_heard.specs.of_state_model.Accounts.Progress R) → (account_by made a duty p).started ≡ a.started
    by duty (Rattle.packets_heard.specs.of_state_model.Accounts.Progress.On stage) = refl
    by duty (Rattle.packets_heard.specs.of_state_model.Accounts.Progress.Over answer) = refl

    go : (hand : Option Duty) → (account_met station made a hand d).started ≡ a.started
    go None = refl
    go (Some duty) = either (is_for station d.address && not (d.counter == 0))
      where
        either : (c : Bool) → (if c then account_by made a duty (access_done duty.target duty.stage d.access d.found) else a).started ≡ a.started
        either true = by duty (access_done duty.target duty.stage d.access d.found)
        either false = refl

-- ---- BEHIND THE FRAME, with what it tells of a mail that is passed on
module _ (R : List (List Body) → List (Era Body Asked Reply) → Type 0) (tally : IsTally R) (spot : Spot) (x : Speech Body Asked Reply) (recover : ℕ) (news : List (News Body)) (gs : List (Frame Body)) (g : Frame Body) (n : Life Body Asked Reply) (t : Times) where
  abbrev back : List (Datagram Body)
  back = g.back

  abbrev halves : Halves Body
  halves = n.era.side.halves

  abbrev gs' : List (Frame Body)
  gs' = gs ++ g ∷ []

  abbrev BackSo : Option (Bool × Option Rattle.packets_heard.specs.of_segment_model.Slaves.Found) → Stand → Type 0
  BackSo came z = Tracks R tally spot gs' (life_back x acknowledged is_followed is_passed (length gs) spot news back came n z) (times_behind z (accepted_at spot.station halves back z) t)

  abbrev LostSo : Bool → List (Datagram Body) → Stand → Type 0
  LostSo gives sent z = Tracks R tally spot gs' (given_where gives recover spot (length gs) (life_lost x acknowledged is_followed is_passed spot news sent n z)) (times_behind z [] t)

  module _ (open_ : TracksOpen R tally spot gs n t) (live : IsLive R spot gs n) (stand : n.stand ≡ Stand.Open) where
    abbrev ms : List Body
    ms = all_accepted spot.station halves (grams (own spot.station back))

    abbrev behind : Era Body Asked Reply
    behind = era_back x acknowledged is_followed is_passed spot.station (length gs) news back n.era

    abbrev now : Life Body Asked Reply
    now = record n { era = behind }

    abbrev more : Times
    more = record { past = t.past; now = t.now ++ ms }

    open_still : IsCalm behind.account.hand → Tracks R tally spot gs' now more
    open_still calm = subst (λ (z : Stand). TracksAs R tally spot gs' now more z) (sym stand) (open_tracks R tally spot gs g n now t ms live refl refl calm open_ refl)

    shut_by : (m : Life Body Asked Reply) (ns : List Body) → ns ≡ [] → m.past ≡ n.past → Grows n.era m.era → TracksShut R tally spot m (record { past = t.past; now = t.now ++ ns })
    shut_by m ns none past grown =
        let was = shut_now R tally spot gs n t open_ live in
        let same : t.now ≡ t.now ++ ns = sym (append-nil t.now) ∙ ap (λ l. t.now ++ l) (sym none) in
        record { all = subst (λ ms. R (ended t.past ms) (m.past ++ m.era ∷ [])) same (subst (λ es. R (ended t.past t.now) (es ++ m.era ∷ [])) (sym past) (tally.grows (ended t.past t.now) n.past n.era m.era grown was.all)) }

    -- behind a frame that brought no mail
    grown_back : ms ≡ [] → Grows n.era behind
    grown_back none = record {
      services = ([], append-nil (services_in n.era.account.started) ∙ ap services_in (sym (started_same spot.station (length gs) n.era.account (own spot.station back))));
      heard = sym (back_heard x acknowledged (length gs) n.era.side.past ms n.era.side.now none);
    }

    open_back : IsOne spot.station back → Tracks R tally spot gs' (reopens now behind.account.hand) more
    open_back one = go behind.account.hand refl
      where
        same_calm : (duty : Duty) → behind.account.hand ≡ Some duty → (returns_to_init duty.target ≡ true → duty.stage ≡ Stage.Drains) → IsCalm behind.account.hand
        same_calm duty e h other f returns =
            let same : duty ≡ other = (let both : Some duty ≡ Some other = sym e ∙ f in cc) in
            subst (λ (d : Duty). returns_to_init d.target ≡ true → d.stage ≡ Stage.Drains) same h returns

        goes : (duty : Duty) → behind.account.hand ≡ Some duty → (phase : Rattle.packets_heard.specs.of_state_model.States.Phase) → duty.stage ≡ Stage.Goes phase → (b : Bool) → returns_to_init duty.target ≡ b →
            Tracks R tally spot gs' (if b then record now { stand = reopening (opens_state duty.target) true } else now) more
        goes duty e phase at false f = open_still (same_calm duty e (λ returns. absurd (let bad : true ≡ false = sym returns ∙ f in cc)))
        goes duty e phase at true f =
            let nothing = none (brings spot.station (length gs) halves n.era.account back open_.calm one duty e f) in
            (shut_by (record now { stand = reopening (opens_state duty.target) true }) ms nothing refl (grown_back nothing), inl (refl, omega arith))
          where
            none : (duty.stage ≡ Stage.Drains) ⊎ (ms ≡ []) → ms ≡ []
            none (inr k) = k
            none (inl k) = absurd (let bad : Stage.Drains ≡ Stage.Goes phase = sym k ∙ at in cc)

        at_stage : (duty : Duty) → behind.account.hand ≡ Some duty → (stage : Stage) → duty.stage ≡ stage → Tracks R tally spot gs' (reopens_at now duty.target stage) more
        at_stage duty e Stage.Drains at = open_still (same_calm duty e (λ returns. at))
        at_stage duty e (Stage.Goes phase) at = goes duty e phase at (returns_to_init duty.target) refl

        go : (hand : Option Duty) → behind.account.hand ≡ hand → Tracks R tally spot gs' (reopens now hand) more
        go None e = open_still (λ duty f returns. absurd (let bad : None ≡ Some duty = sym e ∙ f in cc))
        go (Some duty) e = at_stage duty e duty.stage refl

    open_lost : (gives : Bool) (sent : List (Datagram Body)) → back ≡ [] → LostSo gives sent Stand.Open
    open_lost false sent none =
        let m = life_lost x acknowledged is_followed is_passed spot news sent n Stand.Open in
        subst (λ (z : Stand). TracksAs R tally spot gs' m (record { past = t.past; now = t.now ++ [] }) z) (sym stand)
        (open_tracks R tally spot gs g n m t [] live refl refl open_.calm open_ (sym (ap (λ l. all_accepted spot.station halves (grams (own spot.station l))) none)))
    open_lost true sent none =
        let m = life_lost x acknowledged is_followed is_passed spot news sent n Stand.Open in
        gives_tracks R tally spot recover (length gs) gs' m (record { past = t.past; now = t.now ++ [] }) (shut_by m [] refl refl (record { services = ([], append-nil (services_in n.era.account.started)); heard = refl }))

  -- WHERE IT CAME BACK
  pub back_tracks : (came : Option (Bool × Option Rattle.packets_heard.specs.of_segment_model.Slaves.Found)) (z : Stand) → n.stand ≡ z → TracksAs R tally spot gs n t z → (z ≡ Stand.Open → IsLive R spot gs n) → (z ≡ Stand.Open → IsOne spot.station back) → BackSo came z
  back_tracks None (Stand.Opens o) e k live one = shut_stays R tally spot gs g n t o e k.0 k.1
  back_tracks (Some came) (Stand.Opens o) e k live one = opening_tracks R tally spot gs g n t o e k.0 k.1 came.0 came.1
  back_tracks came Stand.Open e k live one = open_back k (live refl) e (one refl)
  back_tracks came Stand.Gone e k live one = gone_tracks R tally spot gs g n t e k

  -- AND WHERE IT WAS LOST
  pub lost_tracks : (gives : Bool) (sent : List (Datagram Body)) → back ≡ [] → (z : Stand) → n.stand ≡ z → TracksAs R tally spot gs n t z → (z ≡ Stand.Open → IsLive R spot gs n) → LostSo gives sent z
  lost_tracks false sent none (Stand.Opens o) e k live = shut_stays R tally spot gs g n t o e k.0 k.1
  lost_tracks true sent none (Stand.Opens o) e k live = gives_tracks R tally spot recover (length gs) gs' n _ (over_shuts R tally spot n t k.0)
  lost_tracks gives sent none Stand.Open e k live = open_lost k (live refl) e gives sent none
  lost_tracks false sent none Stand.Gone e k live = gone_tracks R tally spot gs g n t e k
  lost_tracks true sent none Stand.Gone e k live = gives_tracks R tally spot recover (length gs) gs' n _ (over_shuts R tally spot n t k)

-- ---- BEFORE IT: what comes into hand
module _ (R : List (List Body) → List (Era Body Asked Reply) → Type 0) (tally : IsTally R) (spot : Spot) (x : Speech Body Asked Reply) (gs : List (Frame Body)) (l : Life Body Asked Reply) (t : Times) (pick : Rattle.packets_heard.specs.of_state_model.Accounts.Pick Asked) where
  abbrev next : Stand → Life Body Asked Reply
  next z = life_next x acknowledged is_followed is_passed (length gs) l z pick

  next_stand : (z : Stand) → (next z).stand ≡ l.stand
  next_stand (Stand.Opens o) = refl
  next_stand Stand.Open = refl
  next_stand Stand.Gone = refl

  pub next_stands : (z : Stand) → l.stand ≡ z → (next z).stand ≡ z
  next_stands z e = next_stand z ∙ e

  abbrev wish : Option (Service Asked)
  wish = (granted l.era.passing pick).begin

  pub next_tracks : (z : Stand) → TracksAs R tally spot gs l t z → TracksAs R tally spot gs (next z) t z
  next_tracks (Stand.Opens o) k = k
  next_tracks Stand.Open k = record { past = k.past; now = k.now; calm = begins_calm x acknowledged (length gs) l.era.side l.era.account l.era.account.hand wish k.calm }
  next_tracks Stand.Gone k = k

  pub next_live : IsLive R spot gs l → IsLive R spot gs (next Stand.Open)
  next_live live = record {
    opened = live.opened;
    opened_at = live.opened_at;
    before = live.before;
    last = ap (λ (i : Rattle.packets_heard.specs.of_link_model.Master.InHalf). i.last) (next_inn x (length gs) l.era.side (Rattle.packets_heard.specs.of_state_model.Accounts.mails_choice l.era.account (granted l.era.passing pick))) ∙ live.last;
    told = λ past told. tally.grows (ended past (heard spot.station (era_frames spot live.opened (length gs) gs))) l.past l.era (next Stand.Open).era
        (record {
          services = begins_more x acknowledged (length gs) l.era.side l.era.account l.era.account.hand wish;
          heard = sym (next_heard x (length gs) l.era.side (Rattle.packets_heard.specs.of_state_model.Accounts.mails_choice l.era.account (granted l.era.passing pick)));
        }) (live.told past told);
  }

-- ---- ONE SLAVE
module _ (R : List (List Body) → List (Era Body Asked Reply) → Type 0) (tally : IsTally R) (lens : ℕ → Lens) (recover retry : ℕ) (gives : Bool) (gs : List (Frame Body)) (f : Exchanged) (ds : List Raw.Datagram)
    (is : seen lens f.sent ≡ datagrams_seen lens ds) (returns : f.fate ≡ Pass → Returns (seen lens f.sent) (seen lens f.back)) (nothing : (after : ℕ) → f.fate ≡ Lost after → seen lens f.back ≡ []) where
  abbrev g : Frame Body
  g = record { sent = seen lens f.sent; fate = fate_seen f.fate; back = seen lens f.back }

  -- its life behind the frame, with what that tells of a mail that is passed on, where it came back and where it was lost
  abbrev behind_by : List (News Body) → List (News Body) → Fate → Lived Asked Reply → Share → Life Body Asked Reply
  behind_by told lost Pass l share = (lived_back (speech_at lens l.spot) acknowledged is_followed is_passed (length gs) (seen lens f.back) l share told).life
  behind_by told lost (Lost after) l share = (lived_lost (speech_at lens l.spot) acknowledged is_followed is_passed gives recover (length gs) (seen lens f.sent) l share lost).life

  frame_tracks : (a : Lived Asked Reply) (u : Turn) (t : Times) (told lost : List (News Body)) → IsNext (speech_at lens a.spot) acknowledged is_followed is_passed (length gs) a u.lived → FrameFor lens u.lived.spot u.lived.life.stand u.share ds →
      Tracks R tally a.spot gs a.life t → (a.life.stand ≡ Stand.Open → IsLive R a.spot gs a.life) → Tracks R tally a.spot (gs ++ g ∷ []) (behind_by told lost f.fate u.lived u.share) (times_behind u.lived.life.stand (mails_by lens f f.fate u) t)
  frame_tracks a u t told lost y has k live = subst (λ (spot : Spot). Ends spot) y.spot (go a.life.stand refl)
    where
      Ends : Spot → Type 0
      Ends spot = Tracks R tally spot (gs ++ g ∷ []) (behind_by told lost f.fate u.lived u.share) (times_behind u.lived.life.stand (mails_by lens f f.fate u) t)

      go : (z : Stand) → a.life.stand ≡ z → Ends u.lived.spot
      go z e = by f.fate refl
        where
          x : Speech Body Asked Reply
          x = speech_at lens a.spot

          life : u.lived.life ≡ life_next x acknowledged is_followed is_passed (length gs) a.life z y.pick
          life = y.life ∙ ap (λ (s : Stand). life_next x acknowledged is_followed is_passed (length gs) a.life s y.pick) e

          stand : u.lived.life.stand ≡ z
          stand = ap (λ (l : Life Body Asked Reply). l.stand) life ∙ next_stands R tally a.spot x gs a.life t y.pick z e

          tracks : TracksAs R tally u.lived.spot gs u.lived.life t z
          tracks = subst (λ (spot : Spot). TracksAs R tally spot gs u.lived.life t z) (sym y.spot)
              (subst (λ (l : Life Body Asked Reply). TracksAs R tally a.spot gs l t z) (sym life)
              (next_tracks R tally a.spot x gs a.life t y.pick z (subst (λ (s : Stand). TracksAs R tally a.spot gs a.life t s) e k)))

          alive : z ≡ Stand.Open → IsLive R u.lived.spot gs u.lived.life
          alive open_ = subst (λ (spot : Spot). IsLive R spot gs u.lived.life) (sym y.spot)
              (subst (λ (l : Life Body Asked Reply). IsLive R a.spot gs l) (sym (life ∙ ap (λ (s : Stand). life_next x acknowledged is_followed is_passed (length gs) a.life s y.pick) open_))
              (next_live R tally a.spot x gs a.life t y.pick (live (e ∙ open_))))

          one : f.fate ≡ Pass → z ≡ Stand.Open → IsOne u.lived.spot.station (seen lens f.back)
          one pass open_ = one_back lens (seen lens f.sent) (seen lens f.back) ds is (returns pass) u.lived.spot u.share (subst (λ (s : Stand). FrameFor lens u.lived.spot s u.share ds) (stand ∙ open_) has)

          by : (fate : Fate) → f.fate ≡ fate → Tracks R tally u.lived.spot (gs ++ g ∷ []) (behind_by told lost fate u.lived u.share) (times_behind u.lived.life.stand (mails_by lens f fate u) t)
          by Pass p = subst (λ (s : Stand). BackSo R tally u.lived.spot (speech_at lens u.lived.spot) recover told gs g u.lived.life t (came_at u.share.under u.share.at (seen lens f.back)) s) (sym stand)
              (back_tracks R tally u.lived.spot (speech_at lens u.lived.spot) recover told gs g u.lived.life t (came_at u.share.under u.share.at (seen lens f.back)) z stand tracks alive (one p))
          by (Lost after) p = subst (λ (s : Stand). LostSo R tally u.lived.spot (speech_at lens u.lived.spot) recover lost gs g u.lived.life t (gives && u.share.under) (seen lens f.sent) s) (sym stand)
              (lost_tracks R tally u.lived.spot (speech_at lens u.lived.spot) recover lost gs g u.lived.life t (gives && u.share.under) (seen lens f.sent) (nothing after p) z stand tracks alive)

  -- of a run
  pub turn_tracks : (a : Leads) (u : Turn) (t : Times) → IsTurn lens (length gs) ds a u → Tracks R tally a.lived.spot gs a.lived.life t → (a.lived.life.stand ≡ Stand.Open → IsLive R a.lived.spot gs a.lived.life) →
      Tracks R tally a.lived.spot (gs ++ g ∷ []) (life_behind lens recover retry gives (length gs) f f.fate u.lived u.share).life (times_behind u.lived.life.stand (mails_by lens f f.fate u) t)
  turn_tracks a u t y k live =
      subst (λ (l : Life Body Asked Reply). Tracks R tally a.lived.spot (gs ++ g ∷ []) l (times_behind u.lived.life.stand (mails_by lens f f.fate u) t)) (same f.fate)
      (frame_tracks a.lived u t [] [] y.next y.asked.has k live)
    where
      same : (fate : Fate) → behind_by [] [] fate u.lived u.share ≡ (life_behind lens recover retry gives (length gs) f fate u.lived u.share).life
      same Pass = refl
      same (Lost after) = refl

  -- and of a serving
  pub serve_tracks : (w : Serves) (v : ServedTurn) (t : Times) → IsServedTurn lens (length gs) ds w v → Tracks R tally w.lead.lived.spot gs w.lead.lived.life t → (w.lead.lived.life.stand ≡ Stand.Open → IsLive R w.lead.lived.spot gs w.lead.lived.life) →
      Tracks R tally w.lead.lived.spot (gs ++ g ∷ []) (served_life lens recover retry gives (length gs) f f.fate v).life (times_behind v.turn.lived.life.stand (mails_by lens f f.fate v.turn) t)
  serve_tracks w v t y k live =
      subst (λ (l : Life Body Asked Reply). Tracks R tally w.lead.lived.spot (gs ++ g ∷ []) l (times_behind v.turn.lived.life.stand (mails_by lens f f.fate v.turn) t)) (same f.fate)
      (frame_tracks w.lead.lived v.turn t told lost y.next y.asked.has k live)
    where
      told : List (News Body)
      told = news_back v.turn.lived.spot.station v.kept v.counts (seen lens f.back)

      lost : List (News Body)
      lost = news_lost v.turn.lived.spot.station v.kept (seen lens f.sent)

      same : (fate : Fate) → behind_by told lost fate v.turn.lived v.turn.share ≡ (served_life lens recover retry gives (length gs) f fate v).life
      same Pass = refl
      same (Lost after) = refl
