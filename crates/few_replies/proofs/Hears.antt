-- What a frame makes of a mail that is always answered: a reply is heard by it, or the mail goes on as it was awaited.
use Rattle.std.proofs.Common.{◌≡◌, ◌≢◌, ◌⊎◌, inl, inr, ℕ, ◌+◌, ◌≤◌, ◌&&◌, Bool, true, false, not, is_none, is_some, Option, Some, None, List, [], ◌∷◌, ◌++◌, map, length, refl, ap, sym, ◌∙◌, subst, arith, append-nil, length-append, if◌then◌else◌}
use Rattle.slave_parts.specs.of_exchange_model.Exchange.{Exchange}
use Rattle.slave_parts.specs.of_link_model.Mails.{LinkMail, news, bodies}
use Rattle.slave_parts.specs.of_link_model.Master.{InState}
use Rattle.slave_parts.specs.of_link_model.Slave.{Node}
use Rattle.slave_parts.specs.of_link_model.Link.{Halves, Link, in_met}
use Rattle.slave_parts.specs.of_link_model.Agree.{Agrees, Knows, last_met_of, unread}
use Rattle.slave_parts.specs.of_link_model.Frames.{Gram, IsFrameFor, own, halves_after, halves_without, all_accepted}
use Rattle.slave_parts.proofs.of_link_model.Law.{accepted_of_offered}
use Rattle.slave_parts.proofs.of_link_model.Own.{grams_all, halves_all, lost_all, node_all, node_after-own, halves_after-own, halves_without-own, own-grams_after}
use Rattle.slave_parts.specs.of_segment_model.Slaves.{Serving, Slave, Datagram, grams, slave_after, frame_after}
use Rattle.slave_parts.specs.of_segment_model.Record.{Kept, News, back_news, mails_heard, all_told, did_read}
use Rattle.slave_parts.specs.of_segment_model.Ends.{Passing}
use Rattle.slave_parts.specs.of_segment_model.Seats.{Seat, link_of, writes, seat_back}
use Rattle.slave_parts.proofs.of_segment_model.News.{heard_back}
use Rattle.slave_parts.proofs.of_segment_model.Rests.{all_taken, all_offered, all_news}
use Rattle.slave_parts.proofs.of_segment_model.Views.{node-slave_after, grams-frame_after}
use Rattle.slave_parts.proofs.of_segment_model.Written.{mails_told, has_written, back_tells, back_frees, Tells, Tells.told, Tells.quiet}
use Rattle.slave_parts.proofs.of_segment_model.Posts.{KeptOut, IsKnown}
use Rattle.slave_parts.specs.of_life_model.Lives.{ReadsFull}
use Rattle.slave_parts.specs.of_serving_model.Tagged.{no_reply}
use Rattle.few_replies.specs.Led.{AreSingle, counted_news}
use Rattle.few_replies.proofs.Ways.{found_empty, was_read, reads_in, answered_in, Quiet, Asked, way}
use Rattle.few_replies.proofs.Founds.{sees_empty, sees_late, AllFindNone, empty_was, late_tells, status_read}
use Rattle.few_replies.proofs.Passings.{reads_nothing, SameNews, counted_same, by, skips, sends, waiting, sent, boxed, sent_boxed, served, boxed_served}
use Rattle.few_replies.proofs.Withdrawn.{Hidden, IsHidden, answers, loses, read_own, nothing_read}
use Rattle.few_replies.proofs.Awaits.{caught, IsTaken, Awaits, StageOf}

-- THE HALF AND MAILBOX 1 BEHIND A FRAME, by the datagrams of the station alone
module _ {V M : Type 0} (station : ℕ) (h : Halves M) (s : Slave V M) (ds : List (Datagram M)) where
  abbrev pub mine : List (Gram M)
  mine = own station (grams ds)

  abbrev pub back_of : List (Datagram M)
  back_of = frame_after station s ds

  pub own_back : own station (grams back_of) ≡ grams_all s.node mine
  own_back = ap (own station) (grams-frame_after station s ds) ∙ own-grams_after station s.node (grams ds)

  pub half_back : halves_after station h (grams back_of) ≡ halves_all h (grams_all s.node mine)
  half_back = halves_after-own station h (grams back_of) ∙ ap (halves_all h) own_back

  pub half_lost : halves_without station h (grams ds) ≡ lost_all h mine
  half_lost = halves_without-own station h (grams ds)

  pub node_behind : (slave_after station s ds).node ≡ node_all s.node mine
  node_behind = node-slave_after station s ds ∙ node_after-own station s.node (grams ds)

  pub which_way : IsFrameFor station h (grams ds) → Quiet h h s.node mine ⊎ Asked h h s.node mine
  which_way f = way h.out.holding (Some h.inn) mine f h.inn refl h h s.node refl refl

  -- WHAT THE SLAVE HIDES behind a frame that came back
  pub hides_back : (counts : Bool) → IsFrameFor station h (grams ds) → IsHidden counts h.inn s.node.inn →
      IsHidden (counts && not (did_read station (grams back_of))) (halves_after station h (grams back_of)).inn (slave_after station s ds).node.inn
  hides_back counts f k =
      let read : did_read station (grams back_of) ≡ was_read (grams_all s.node mine) = read_own station (grams back_of) ∙ ap was_read own_back in
      let half = ap (λ (l : Halves M). l.inn) half_back in
      let node = ap (λ (l : Node M (Serving V M)). l.inn) node_behind in
      subst (λ b. IsHidden (counts && not b) (halves_after station h (grams back_of)).inn (slave_after station s ds).node.inn) (sym read)
      (subst (λ i. IsHidden (counts && not (was_read (grams_all s.node mine))) i (slave_after station s ds).node.inn) (sym half)
      (subst (λ i. IsHidden (counts && not (was_read (grams_all s.node mine))) (halves_all h (grams_all s.node mine)).inn i) (sym node) (go (which_way f))))
    where
      both : (c : Bool) → c ≡ c && not false
      both true = refl
      both false = refl

      go : Quiet h h s.node mine ⊎ Asked h h s.node mine → IsHidden (counts && not (was_read (grams_all s.node mine))) (halves_all h (grams_all s.node mine)).inn (node_all s.node mine).inn
      go (inl q) =
          subst (λ b. IsHidden (counts && not b) (halves_all h (grams_all s.node mine)).inn (node_all s.node mine).inn) (sym q.read)
          (subst (λ i. IsHidden (counts && not false) i (node_all s.node mine).inn) (sym q.half)
          (subst (λ i. IsHidden (counts && not false) h.inn i) (sym q.node) (subst (λ c. IsHidden c h.inn s.node.inn) (both counts) k)))
      go (inr q) =
          subst (λ b. IsHidden (counts && not b) (halves_all h (grams_all s.node mine)).inn (node_all s.node mine).inn) (sym q.read)
          (subst (λ i. IsHidden (counts && not (reads_in h.inn.state && is_some s.node.inn.box)) i (node_all s.node mine).inn) (sym q.half)
          (subst (λ i. IsHidden (counts && not (reads_in h.inn.state && is_some s.node.inn.box)) (answered_in h.inn s.node.inn) i) (sym q.node)
          (answers counts h.inn s.node.inn h.inn.state refl k)))

  -- and behind a lost one, met by the slave or not
  pub hides_lost : (counts : Bool) → IsFrameFor station h (grams ds) → Knows h.inn.state h.inn s.node.inn → IsHidden counts h.inn s.node.inn → (met : Bool) →
      IsHidden counts (halves_without station h (grams ds)).inn (if met then slave_after station s ds else s).node.inn
  hides_lost counts f knows k met =
      subst (λ i. IsHidden counts i (if met then slave_after station s ds else s).node.inn) (sym (ap (λ (l : Halves M). l.inn) half_lost)) (by met (which_way f))
    where
      by : (met : Bool) → Quiet h h s.node mine ⊎ Asked h h s.node mine → IsHidden counts (lost_all h mine).inn (if met then slave_after station s ds else s).node.inn
      by true (inl q) =
          subst (λ i. IsHidden counts (lost_all h mine).inn i) (sym (ap (λ (l : Node M (Serving V M)). l.inn) node_behind ∙ q.node)) (subst (λ i. IsHidden counts i s.node.inn) (sym q.lost) k)
      by true (inr q) =
          subst (λ i. IsHidden counts (lost_all h mine).inn i) (sym (ap (λ (l : Node M (Serving V M)). l.inn) node_behind ∙ q.node))
          (subst (λ i. IsHidden counts i (in_met s.node.inn h.inn.state h.inn.bit)) (sym q.lost) (loses counts h.inn s.node.inn h.inn.state knows k true refl))
      by false (inl q) = subst (λ i. IsHidden counts i s.node.inn) (sym q.lost) k
      by false (inr q) = subst (λ i. IsHidden counts i s.node.inn) (sym q.lost) (loses counts h.inn s.node.inn h.inn.state knows k false refl)

-- with nothing in doubt all but one of what was offered is accepted
clear_counts : {M S : Type 0} (w : Link M S) → Agrees w → w.halves.inn.state ≡ InState.Clear → length w.offered ≤ length w.accepted + 1
clear_counts {M} w a clear =
    let i = a.inn in
    let last = last_met_of w.node.inn in
    let knows = subst (λ st. Knows st w.halves.inn w.node.inn) clear i.knows in
    let none = all_news w.halves.inn.last last knows.0 i.read.counted in
    let stream : w.offered ≡ w.accepted ++ (bodies (unread w.node.inn.again w.node.inn.box) ++ bodies w.node.inn.withdrawn) = i.stream ∙ ap (λ l. w.accepted ++ (l ++ (bodies (unread w.node.inn.again w.node.inn.box) ++ bodies w.node.inn.withdrawn))) none in
    let l1 = ap length stream in
    let l2 = length-append w.accepted (bodies (unread w.node.inn.again w.node.inn.box) ++ bodies w.node.inn.withdrawn) in
    let l3 = length-append (bodies (unread w.node.inn.again w.node.inn.box)) (bodies w.node.inn.withdrawn) in
    let l4 = few w.node.inn.again w.node.inn.box refl refl in
    omega (arith, l1, l2, l3, l4)
  where
    bound : (b : Option (LinkMail M)) → length (bodies b) ≤ 1
    bound None = omega arith
    bound (Some m) = omega arith

    none_of : (b : Option (LinkMail M)) → b ≡ None → length (bodies b) ≡ 0
    none_of b e = ap (λ k. length (bodies k)) e

    few : (again : Bool) (box : Option (LinkMail M)) → w.node.inn.again ≡ again → w.node.inn.box ≡ box → length (bodies (unread again box)) + length (bodies w.node.inn.withdrawn) ≤ 1
    few true box e f = let b = bound w.node.inn.withdrawn in let none : length (bodies {B = M} None) ≡ 0 = refl in omega (arith, b, none)
    few false None e f = let b = bound w.node.inn.withdrawn in let none : length (bodies {B = M} None) ≡ 0 = refl in omega (arith, b, none)
    few false (Some m) e f =
        let none = none_of w.node.inn.withdrawn (a.inn.side.one m (a.inn.side.stands m f) e) in
        let one : length (bodies (Some m)) ≡ 1 = refl in
        omega (arith, none, one)

-- what is fetched again stands there, so an empty mailbox 1 had nothing
refetch_offered : {M S : Type 0} (w : Link M S) → Agrees w → w.halves.inn.state ≡ InState.Refetch → w.node.inn.box ≡ None → w.node.inn.withdrawn ≡ None → w.offered ≡ w.accepted
refetch_offered {M} w a state box withdrawn =
    let i = a.inn in
    let knows = subst (λ st. Knows st w.halves.inn w.node.inn) state i.knows in
    let one = nothing (last_met_of w.node.inn) refl knows.1 in
    i.stream ∙ ap (λ l. w.accepted ++ (l ++ (bodies (unread w.node.inn.again w.node.inn.box) ++ bodies w.node.inn.withdrawn))) one
    ∙ ap (λ l. w.accepted ++ (l ++ bodies w.node.inn.withdrawn)) (none_unread w.node.inn.again) ∙ ap (λ b. w.accepted ++ bodies b) withdrawn ∙ append-nil w.accepted
  where
    none_unread : (again : Bool) → bodies (unread again w.node.inn.box) ≡ []
    none_unread true = refl
    none_unread false = ap bodies box

    apart : InState.Refetch ≡ InState.Clear → ⊥
    apart e = cc

    nothing : (last : Option (LinkMail M)) → last_met_of w.node.inn ≡ last → w.node.inn.acknowledge ≡ w.halves.inn.bit → news w.halves.inn.last (last_met_of w.node.inn) ≡ []
    nothing None e k = ap (news w.halves.inn.last) e
    nothing (Some m) e k = absurd (let stands = (a.inn.there (λ c. apart (sym state ∙ c)) k m e).0 in let bad : None ≡ Some m = sym box ∙ stands in cc)

-- a half that tells nothing new
pub known_tells : {M : Type 0} (holding : Option (LinkMail M)) (last kept behind : ℕ) (w : Bool) (ts : List M) → Tells kept holding w ts behind → IsKnown holding last kept → ts ≡ []
known_tells {M} holding last kept behind w ts (told m e) k =
    let a = k.again m e in
    all_news kept (Some m) (sym a.0) (λ n h. subst (λ c. c.counter ≢ 0) (let same : m ≡ n = cc in same) a.1)
known_tells holding last kept behind w ts quiet k = refl

-- the seat before a frame, with what is known of it
pub record Meets {V M Q R : Type 0} (s : Seat V M Q R) (ds : List (Datagram M)) (kept : Kept) (counts : Bool) : Type 0 where
  pub agrees : Agrees (link_of s)
  pub frame : IsFrameFor s.station s.side.halves (grams ds)
  pub clean : AllFindNone s.station ds
  pub single : AreSingle ds
  pub status : ReadsFull s.station ds → s.side.halves.inn.state ≡ InState.Clear
  pub hidden : IsHidden counts s.side.halves.inn s.slave.node.inn
  pub out : KeptOut s.side.fresh s.side.halves.out.holding s.side.halves.out.last kept.told
  pub heard : s.side.halves.inn.last ≡ kept.heard
  pub behind : ℕ
  pub tells : Tells kept.told s.side.halves.out.holding (writes s.station (grams ds)) (all_told s.station kept.told (grams ds)) behind

module _ {V A M Q R : Type 0} (x : Exchange V A M Q R) (acknowledged : Q → Bool) (more : M → Bool) (passed : Q → Bool) (s : Seat V M Q R) (ds : List (Datagram M)) (kept : Kept) (counts : Bool) (k : Meets s ds kept counts) where
  abbrev passes_by : Option Passing → List (News M) → Option Passing
  passes_by p ns = by x.speech acknowledged more passed p ns

  abbrev ts : List M
  ts = all_told s.station kept.told (grams ds)

  -- A FRAME THAT CAME BACK
  module _ (frame : ℕ) where
    abbrev back : List (Datagram M)
    back = frame_after s.station s.slave ds

    abbrev t : Seat V M Q R
    t = seat_back x frame s ds back

    abbrev ms : List M
    ms = all_accepted s.station s.side.halves (grams back)

    abbrev old : List (News M)
    old = back_news s.station kept.heard back

    abbrev ns : List (News M)
    ns = counted_news counts old

    same : SameNews counts old ns
    same = counted_same counts old

    heard_is : mails_heard ns ≡ ms
    heard_is = same.heard ∙ ap (λ n. mails_heard (back_news s.station n back)) (sym k.heard) ∙ heard_back s.station s.side.halves back

    none_told : mails_told ns ≡ []
    none_told = same.told ∙ back_tells s.station kept.heard back

    late : sees_late ns ≡ false
    late = same.late ∙ late_tells s.station kept.heard s.slave ds k.clean k.single

    frees : t.side.halves.out.holding ≡ (if has_written ns then None else s.side.halves.out.holding)
    frees = back_frees s.station kept.heard s.side.halves back ∙ ap (λ b. if b then None else s.side.halves.out.holding) (sym same.written)

    module _ (behind : Agrees (link_of t)) where
      order : (rest : List M) × ((s.accepted ++ ms) ++ rest ≡ s.offered)
      order = let o = accepted_of_offered (link_of t) behind in (o.0, sym o.1)

      -- what was taken stays so, or a reply is heard
      stays_taken : (j : IsTaken x s) → ((i : IsTaken x t) × (i.first ≡ j.first)) ⊎ (no_reply x.speech.emission ms ≡ false)
      stays_taken j = go (caught x.speech.emission j.reply j.replies s.accepted ms order.0 j.first j.rest (order.1 ∙ j.offered) j.few)
        where
          go : (length (s.accepted ++ ms) ≤ length j.first) ⊎ (no_reply x.speech.emission ms ≡ false) → ((i : IsTaken x t) × (i.first ≡ j.first)) ⊎ (no_reply x.speech.emission ms ≡ false)
          go (inl few) = inl (record { taken = j.taken; first = j.first; reply = j.reply; rest = j.rest; offered = j.offered; replies = j.replies; few = few }, refl)
          go (inr n) = inr n

      module _ (none : no_reply x.speech.emission ms ≡ true) where
        clash : no_reply x.speech.emission ms ≡ false → ⊥
        clash e = let bad : true ≡ false = sym none ∙ e in cc

        none_heard : no_reply x.speech.emission (mails_heard ns) ≡ true
        none_heard = ap (no_reply x.speech.emission) heard_is ∙ none

        still_taken : (j : IsTaken x s) → (i : IsTaken x t) × (i.first ≡ j.first)
        still_taken j = elim (stays_taken j) [ inl i ↦ i | inr n ↦ absurd (clash n) ]

        still_awaits : (m : M) → Awaits x m s → Awaits x m t
        still_awaits m (inl l) = inl l
        still_awaits m (inr j) = inr (still_taken j).0

        -- where the reply is the next to be heard, nothing is
        module _ (j : IsTaken x s) (next : length j.first ≤ length s.accepted) where
          hears_none : ms ≡ []
          hears_none = go ms refl
            where
              go : (l : List M) → ms ≡ l → l ≡ []
              go [] e = refl
              go (m ∷ l) e = absurd (let i = still_taken j in let few = i.0.few in let same = ap length i.1 in let l1 = length-append s.accepted ms in let l2 = ap length e in omega (arith, few, same, l1, l2, next))

          all_out : s.offered ≡ s.accepted → ⊥
          all_out e = let l1 = ap length e in let l2 = ap length j.offered in let l3 = length-append j.first (j.reply ∷ j.rest) in let few = j.few in omega (arith, l1, l2, l3, few)

          empty_out : s.slave.node.inn.box ≡ None → (state : InState) → s.side.halves.inn.state ≡ state → reads_in state ≡ true → counts ≡ true → ⊥
          empty_out box InState.Clear e r c =
              let shown = subst (λ st. Hidden counts st s.side.halves.inn s.slave.node.inn) e k.hidden in
              all_out (all_offered (link_of s) k.agrees e box (shown c box))
          empty_out box InState.Doubt e r c = let bad : false ≡ true = r in cc
          empty_out box InState.Asked e r c = let bad : false ≡ true = r in cc
          empty_out box InState.Refetch e r c =
              let shown = subst (λ st. Hidden counts st s.side.halves.inn s.slave.node.inn) e k.hidden in
              all_out (refetch_offered (link_of s) k.agrees e box (shown box))

          reads_none : reads_nothing ns ≡ false
          reads_none = same.nothing ∙ go counts refl
            where
              empty : reads_nothing old ≡ found_empty (grams_all s.slave.node (own s.station (grams ds)))
              empty = nothing_read s.station kept.heard back ∙ ap found_empty (own_back s.station s.side.halves s.slave ds)

              both : (a b : Bool) → a && b ≡ true → (a ≡ true) × (b ≡ true)
              both true true e = (refl, refl)
              both true false e = absurd (let bad : false ≡ true = e in cc)
              both false b e = absurd (let bad : false ≡ true = e in cc)

              none_box : (box : Option (LinkMail M)) → is_none box ≡ true → box ≡ None
              none_box None e = refl
              none_box (Some m) e = absurd (let bad : false ≡ true = e in cc)

              read : (b : Bool) → reads_nothing old ≡ b → counts ≡ true → b ≡ false
              read false e c = refl
              read true e c = absurd (by (which_way s.station s.side.halves s.slave ds k.frame))
                where
                  by : Quiet s.side.halves s.side.halves s.slave.node (own s.station (grams ds)) ⊎ Asked s.side.halves s.side.halves s.slave.node (own s.station (grams ds)) → ⊥
                  by (inl q) = let bad : true ≡ false = sym e ∙ empty ∙ q.empty in cc
                  by (inr q) =
                      let b = both (reads_in s.side.halves.inn.state) (is_none s.slave.node.inn.box) (sym q.empty ∙ sym empty ∙ e) in
                      empty_out (none_box s.slave.node.inn.box b.1) s.side.halves.inn.state refl b.0 c

              go : (c : Bool) → counts ≡ c → c && reads_nothing old ≡ false
              go false c = refl
              go true c = read (reads_nothing old) refl c

        abbrev Goes : Passing → M → List M → Type 0
        Goes p m mails = (q : Passing) × (passes_by (Some p) (map (λ m. News.Told m) ts ++ ns) ≡ Some q) × StageOf x q m mails t

        -- a mail that was sent
        sent_on : (m : M) (mails : List M) → mails ≡ m ∷ [] → Awaits x m s → (q : Passing) × (passes_by (Some Passing.Sent) ns ≡ Some q) × StageOf x q m mails t
        sent_on m mails e w = go (has_written ns) refl
          where
            go : (b : Bool) → has_written ns ≡ b → (q : Passing) × (passes_by (Some Passing.Sent) ns ≡ Some q) × StageOf x q m mails t
            go false f = (Passing.Sent, sent x.speech acknowledged more passed ns f none_heard, (e, still_awaits m w))
            go true f = (Passing.Boxed, sent_boxed x.speech acknowledged more passed ns f late none_heard, (e, still_awaits m w, frees ∙ ap (λ b. if b then None else s.side.halves.out.holding) f))

        waits_on : (m : M) (mails : List M) → StageOf x Passing.Waiting m mails s → Goes Passing.Waiting m mails
        waits_on m mails (inl new) = (
          Passing.Waiting,
          ap (λ l. passes_by (Some Passing.Waiting) (map (λ m. News.Told m) l ++ ns)) (known_tells s.side.halves.out.holding s.side.halves.out.last kept.told k.behind (writes s.station (grams ds)) ts k.tells known) ∙ waiting x.speech acknowledged more passed ns none_told none_heard,
          inl (new.0, ap (λ b. b && not (writes s.station (grams back))) new.1),
        )
          where
            known : IsKnown s.side.halves.out.holding s.side.halves.out.last kept.told
            known = subst (λ b. KeptOut b s.side.halves.out.holding s.side.halves.out.last kept.told) new.1 k.out
        waits_on m mails (inr w) = go ts refl
          where
            go : (l : List M) → ts ≡ l → Goes Passing.Waiting m mails
            go [] e = (Passing.Waiting, ap (λ l. passes_by (Some Passing.Waiting) (map (λ m. News.Told m) l ++ ns)) e ∙ waiting x.speech acknowledged more passed ns none_told none_heard, inr (w.0, still_awaits m w.1))
            go (u ∷ l) e =
                let on = sent_on m mails w.0 w.1 in
                (on.0, ap (λ l. passes_by (Some Passing.Waiting) (map (λ m. News.Told m) l ++ ns)) e ∙ sends x.speech acknowledged more passed u l ns ∙ on.1, on.2)

        -- one that mailbox 0 took
        boxed_on : (m : M) (mails : List M) → StageOf x Passing.Boxed m mails s → Goes Passing.Boxed m mails
        boxed_on m mails w = go (sees_empty ns) refl
          where
            idle : (b : Bool) → (if b then None else s.side.halves.out.holding) ≡ None
            idle true = refl
            idle false = w.2

            taken : s.slave.node.out.box ≡ None → Awaits x m s → IsTaken x s
            taken box (inl l) = absurd (
                let all : s.taken ≡ s.held = all_taken (link_of s) k.agrees box w.2 in
                let l1 = ap length all in
                let l2 = ap length l.1 in
                let l3 = length-append (s.taken ++ l.0) (m ∷ []) in
                let l4 = length-append s.taken l.0 in
                let one : length (m ∷ []) ≡ 1 = refl in
                omega (arith, l1, l2, l3, l4, one))
            taken box (inr j) = j

            go : (b : Bool) → sees_empty ns ≡ b → Goes Passing.Boxed m mails
            go false e = (Passing.Boxed, skips x.speech acknowledged more passed Passing.Boxed (λ m. refl) ts ns ∙ boxed x.speech acknowledged more passed ns e none_heard, (w.0, still_awaits m w.1, frees ∙ idle (has_written ns)))
            go true e =
                let seen : sees_empty old ≡ true = sym same.empty ∙ e in
                let j = taken (empty_was s.station kept.heard s.slave ds k.clean seen) w.1 in
                let clear = k.status (status_read s.station kept.heard s.slave ds k.clean seen) in
                let counted = clear_counts (link_of s) k.agrees clear in
                let l2 = ap length j.offered in
                let l3 = length-append j.first (j.reply ∷ j.rest) in
                let next : length j.first ≤ length s.accepted = omega (arith, counted, l2, l3) in
                let i = still_taken j in
                let same_first = ap length i.1 in
                let grown = length-append s.accepted ms in (
                  Passing.Served,
                  skips x.speech acknowledged more passed Passing.Boxed (λ m. refl) ts ns ∙ boxed_served x.speech acknowledged more passed ns e (heard_is ∙ hears_none j next) (reads_none j next),
                  (w.0, (i.0, omega (arith, next, same_first, grown))),
                )

        served_on : (m : M) (mails : List M) → StageOf x Passing.Served m mails s → Goes Passing.Served m mails
        served_on m mails w =
            let j = w.1.0 in
            let next = w.1.1 in
            let i = still_taken j in
            let same_first = ap length i.1 in
            let grown = length-append s.accepted ms in (
              Passing.Served,
              skips x.speech acknowledged more passed Passing.Served (λ m. refl) ts ns ∙ served x.speech acknowledged more passed ns (heard_is ∙ hears_none j next) (reads_none j next),
              (w.0, (i.0, omega (arith, next, same_first, grown))),
            )

        pub goes : (p : Passing) (m : M) (mails : List M) → StageOf x p m mails s → Goes p m mails
        goes Passing.Waiting m mails w = waits_on m mails w
        goes Passing.Sent m mails w = let on = sent_on m mails w.0 w.1 in (on.0, skips x.speech acknowledged more passed Passing.Sent (λ m. refl) ts ns ∙ on.1, on.2)
        goes Passing.Boxed m mails w = boxed_on m mails w
        goes Passing.Served m mails w = served_on m mails w
        goes Passing.Answered m mails w = absurd w
