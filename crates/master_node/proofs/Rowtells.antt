-- WHAT THE NEWEST SERVICE OF AN OPEN SLAVE TELLS behind a frame that came back, and what its post has in hand of it then.
use Rattle.std.proofs.Common.{◌≡◌, ◌⊎◌, inl, inr, ℕ, Bool, true, false, Option, Some, None, List, [], ◌++◌, refl, sym, ap, ◌∙◌, subst, append-nil}
use Rattle.std.specs.Prelude.{◌&&◌, not, is_some, option_map, if◌then◌else◌}
use Rattle.life_runs.specs.of_exchange_model.Areas.{Areas}
use Rattle.life_runs.specs.of_mailbox_mail.declared.outcome.ReplyKind.{ReplyKind}
use Rattle.life_runs.specs.of_master_duty.Reply.{Reply}
use Rattle.life_runs.specs.of_exchange_model.Exchange.{Speech, plain}
use Rattle.life_runs.specs.of_exchange_model.Rows.{Row, answer_after, row_heard}
use Rattle.life_runs.specs.of_master_hand.Hears.{answer_kept, kind_in}
use Rattle.life_runs.specs.of_master_hand.Shown.{HandShows, Shows, has_reply}
use Rattle.life_runs.specs.of_master_hand.Spoken.{Asked, drive, emission, ends, file, hand_speech, is_passed, net, passed, replied, sdo}
use Rattle.life_runs.specs.of_master_hand.Talk.{Talking, client_awaits}
use Rattle.life_runs.specs.of_master_hand.contracts.hand.InHandHand.TheImpl as Impl
use Rattle.life_runs.specs.of_master_hand.declared.clients.Which.{Which}
use Rattle.life_runs.specs.of_master_hand.declared.course.Course.{Course}
use Rattle.life_runs.specs.of_master_hand.declared.hand.InHand.{InHand}
use Rattle.life_runs.specs.of_master_side.Free.{is_free_side}
use Rattle.life_runs.specs.of_master_side.declared.hand.Heard.{Heard}
use Rattle.life_runs.specs.of_link_mails.Body.{Body}
use Rattle.life_runs.specs.of_master_tour.declared.stop.Stop.{Stop}
use Rattle.master_node.specs.Backtold.{AnswerHas, NewestHas, PacketHas, ServiceHas, answer_told, has_packet, kind_by, kind_of, over_told, packet_told}
use Rattle.master_node.specs.Begins.{is_other}
use Rattle.master_node.specs.Besides.{Does, answered_does, handed_where, mail_does, over_does, stays, then_does}
use Rattle.master_node.specs.declared.post.Work.{Work}
use Rattle.master_node.proofs.PacketRows.{heard_unanswered, packet_ends}

-- THE KIND OF A HAND'S ANSWER is that of the row that it shows
no_answer : (o : Option (Reply × ℕ)) → is_some o ≡ false → None ≡ kind_by o
no_answer None e = refl
no_answer (Some a) e = absurd (let bad : true ≡ false = e in cc)

by_answer : (o : Option (Reply × ℕ)) (w : Option Reply) → is_some o ≡ true → ((a : Reply × ℕ) → o ≡ Some a → w ≡ Some a.0) → kind_in w ≡ kind_by o
by_answer None w e k = absurd (let bad : false ≡ true = e in cc)
by_answer (Some a) w e k = ap kind_in (k a refl)

kept_by : (course : Course) (which : Which) (c : Talking) (now : Option (Row Body Asked Reply)) → HandShows course which c now → (if has_reply course then kind_in (client_awaits which c []) else None) ≡ kind_of now
kept_by Course.Nothing which c now e = sym (ap kind_of e)
kept_by Course.Goes which c now g = no_answer g.row.answer g.answer ∙ sym (ap kind_of g.is)
kept_by Course.Answered which c now g = by_answer g.row.answer (client_awaits which c []) g.answer g.kept ∙ sym (ap kind_of g.is)
kept_by Course.Mute which c now g = no_answer g.row.answer g.answer ∙ sym (ap kind_of g.is)
kept_by Course.Closed which c now g = ap kind_in g.kept ∙ sym (ap kind_by g.answered) ∙ sym (ap kind_of g.is)
kept_by Course.Astray which c now g = no_answer g.row.answer g.answer ∙ sym (ap kind_of g.is)

pub kept_kind : (h : InHand) (x : Speech Body Asked Reply) (now : Option (Row Body Asked Reply)) → Shows h.course h.which h.clients x now → answer_kept h ≡ kind_of now
kept_kind h x now s = kept_by h.course h.which h.clients now s.1

-- A HAND SHOWS no row whose reply is whole and that has no answer yet
abbrev pub IsQuiet : Speech Body Asked Reply → Option (Row Body Asked Reply) → Type 0
IsQuiet x now = (r : Row Body Asked Reply) → now ≡ Some r → r.answer ≡ None → x.ends r.service (plain x.emission r.heard) ≡ None

row_of : (g r : Row Body Asked Reply) (now : Option (Row Body Asked Reply)) → now ≡ Some g → now ≡ Some r → g ≡ r
row_of g r now e f = (let both : Some g ≡ Some r = sym e ∙ f in cc)

whole_none : (c : Talking) (g r : Row Body Asked Reply) {now : Option (Row Body Asked Reply)} {w : Option Reply} → now ≡ Some g → now ≡ Some r → ends c.areas g.service (plain emission g.heard ++ []) ≡ w → (g.answer ≡ None → w ≡ None) → r.answer ≡ None →
    ends c.areas r.service (plain emission r.heard) ≡ None
whole_none c g r {now} e f goes quiet n =
    let same = row_of g r now e f in
    ap (λ (z : Row Body Asked Reply). ends c.areas z.service (plain emission z.heard)) (sym same) ∙ ap (λ z. ends c.areas g.service z) (sym (append-nil (plain emission g.heard))) ∙ goes ∙ quiet (ap (λ z. z.answer) same ∙ n)

quiet_by : (course : Course) (which : Which) (c : Talking) (now : Option (Row Body Asked Reply)) → HandShows course which c now → IsQuiet (hand_speech c.areas) now
quiet_by Course.Nothing which c now s = λ r e n. absurd (let bad : None ≡ Some r = sym s ∙ e in cc)
quiet_by Course.Goes which c now g = λ r e n. whole_none c g.row r g.is e (g.talks.goes []) (λ z. g.quiet z) n
quiet_by Course.Answered which c now g = λ r e n. whole_none c g.row r g.is e (g.talks.goes []) (λ z. g.quiet z) n
quiet_by Course.Mute which c now g = λ r e n. whole_none c g.row r g.is e (g.goes []) (λ z. g.quiet z) n
quiet_by Course.Closed which c now g = λ r e n. absurd (let bad : None ≡ Some g.answer = sym (ap (λ z. z.answer) (row_of g.row r now g.is e) ∙ n) ∙ g.answered in cc)
quiet_by Course.Astray which c now g = λ r e n. whole_none c g.row r g.is e (g.goes []) (λ z. g.quiet z) n

pub quiet_shown : (h : InHand) (x : Speech Body Asked Reply) (now : Option (Row Body Asked Reply)) → Shows h.course h.which h.clients x now → IsQuiet x now
quiet_shown h x now s = subst (λ z. IsQuiet z now) (sym s.0) (quiet_by h.course h.which h.clients now s.1)

-- what a mail that is passed on completes has no kind
pub passed_kind : (areas : Areas) (q : Asked) (hs : List Body) → is_passed q ≡ true → kind_in (ends areas q hs) ≡ None
passed_kind areas (passed m) hs e = go _
  where
    go : (b : Bool) → kind_in (if b then Some None else None) ≡ None
    go true = refl
    go false = refl
passed_kind areas (sdo q) hs e = absurd (let bad : false ≡ true = e in cc)
passed_kind areas (file q) hs e = absurd (let bad : false ≡ true = e in cc)
passed_kind areas (drive q) hs e = absurd (let bad : false ≡ true = e in cc)
passed_kind areas (net q) hs e = absurd (let bad : false ≡ true = e in cc)

pub passed_other : (q : Asked) → is_passed q ≡ true → is_other q ≡ true
passed_other (passed m) e = refl
passed_other (sdo q) e = absurd (let bad : false ≡ true = e in cc)
passed_other (file q) e = absurd (let bad : false ≡ true = e in cc)
passed_other (drive q) e = absurd (let bad : false ≡ true = e in cc)
passed_other (net q) e = absurd (let bad : false ≡ true = e in cc)

-- what another service completes has one
replied_kind : (o : Option (ReplyKind × List ℕ)) (r : Reply) → replied o ≡ Some r → is_some (kind_in (Some r)) ≡ true
replied_kind None r e = absurd (let bad : None ≡ Some r = e in cc)
replied_kind (Some p) r e = (let same : Some p ≡ r = (let all : Some (Some p) ≡ Some r = e in cc) in ap (λ z. is_some (kind_in (Some z))) (sym same))

script_kind : (areas : Areas) (q : Asked) (hs : List Body) (r : Reply) → is_passed q ≡ false → ends areas q hs ≡ Some r → is_some (kind_in (Some r)) ≡ true
script_kind areas (sdo q) hs r p e = replied_kind _ r e
script_kind areas (file q) hs r p e = replied_kind _ r e
script_kind areas (drive q) hs r p e = replied_kind _ r e
script_kind areas (net q) hs r p e = replied_kind _ r e
script_kind areas (passed m) hs r p e = absurd (let bad : true ≡ false = p in cc)

module _ (place frame : ℕ) where
  same_told : (k : Option ReplyKind) → answer_told place k k ≡ []
  same_told None = refl
  same_told (Some kind) = refl

  -- what has no kind tells no answer
  pub kind_told : (o : Option (Reply × ℕ)) (found : Option Reply) → kind_in found ≡ None → answer_told place (kind_by o) (kind_by (answer_after frame o found)) ≡ []
  kind_told (Some a) found e = same_told (kind_in (Some a.0))
  kind_told None None e = refl
  kind_told None (Some r) e = ap (λ z. answer_told place None z) e

  -- an answer that is there stays
  record Stays (o : Option (Reply × ℕ)) (found : Option Reply) : Type 0 where
    told : answer_told place (kind_by o) (kind_by (answer_after frame o found)) ≡ []
    there : is_some (answer_after frame o found) ≡ true

  answer_stays : (o : Option (Reply × ℕ)) (found : Option Reply) → is_some o ≡ true → Stays o found
  answer_stays (Some a) found e = record { told = same_told (kind_in (Some a.0)); there = refl }
  answer_stays None found e = absurd (let bad : false ≡ true = e in cc)

-- of the service in hand what a mail does, where one was accepted
abbrev pub mails_does : ℕ → Option Heard → Stop InHand Impl.ghosts → Work → Does
mails_does place None t work = stays work
mails_does place (Some what) t work = mail_does place t work

-- and then what is over
abbrev pub rest_does : ℕ → Stop InHand Impl.ghosts → Work → Does
rest_does place t work = then_does (mails_does place t.side.heard t work) (λ w. over_does place t w)

pub mails_still : (place : ℕ) (heard : Option Heard) (t : Stop InHand Impl.ghosts) (work : Work) → mail_does place t work ≡ stays work → mails_does place heard t work ≡ stays work
mails_still place None t work e = refl
mails_still place (Some what) t work e = e

module _ (areas : Areas) (place frame : ℕ) (ms : List Body) (known known' : Bool) (t : Stop InHand Impl.ghosts) where
  abbrev x : Speech Body Asked Reply
  x = hand_speech areas

  abbrev pub heard : Row Body Asked Reply → Row Body Asked Reply
  heard r = row_heard x frame ms r

  abbrev found : Row Body Asked Reply → Option Reply
  found r = ends areas r.service (plain emission (r.heard ++ ms))

  -- this is told of the row, and this is in hand of it
  pub record RowTells (passes other : Bool) (r : Row Body Asked Reply) (free free' : Bool) (d : Does) : Type 0 where
    pub is : d.told ≡ answer_told place (kind_by r.answer) (kind_by (answer_after frame r.answer (found r))) ++ packet_told place (not other) known' free free'
    pub has : ServiceHas passes other free' known' (is_some (answer_after frame r.answer (found r))) d.work

  -- OF A SERVICE THAT IS OVER nothing is told
  answer_nothing : (b : Bool) → AnswerHas b Work.Nothing → b ≡ true
  answer_nothing true h = refl
  answer_nothing false h = absurd (let bad : Work.Nothing ≡ Work.Mails = h in cc)

  packet_nothing : (free knows : Bool) → PacketHas free knows Work.Nothing → free ≡ true
  packet_nothing true knows h = refl
  packet_nothing false knows h = absurd (let bad : Work.Nothing ≡ Work.Packet = h in cc)

  nothing_has : (knows : Bool) → PacketHas true knows Work.Nothing
  nothing_has true = refl
  nothing_has false = inr refl

  -- a packet has none behind them either
  packet_unanswered : (r : Row Body Asked Reply) → is_other r.service ≡ false → is_some r.answer ≡ false → is_some (answer_after frame r.answer (found r)) ≡ false
  packet_unanswered r o none = ap (λ (k : Option (Reply × ℕ)). is_some k) (heard_unanswered areas frame ms r o) ∙ none

  pub row_nothing : (passes other : Bool) (r : Row Body Asked Reply) (free free' : Bool) → is_passed r.service ≡ passes → is_other r.service ≡ other → (other ≡ false → free ≡ true → free' ≡ true) → ServiceHas passes other free known (is_some r.answer) Work.Nothing →
      RowTells passes other r free free' (stays Work.Nothing)
  row_nothing true true r free free' p o m h = record { is = sym (ap (λ z. z ++ []) (kind_told place frame r.answer (found r) (passed_kind areas r.service _ p))); has = refl }
  row_nothing true false r free free' p o m h = absurd (let bad : true ≡ false = sym (passed_other r.service p) ∙ o in cc)
  row_nothing false true r free free' p o m h =
      let s = answer_stays place frame r.answer (found r) (answer_nothing (is_some r.answer) h) in
      record { is = sym (ap (λ z. z ++ []) s.told); has = subst (λ z. AnswerHas z Work.Nothing) (sym s.there) refl }
  row_nothing false false r free free' p o m h =
      let was = packet_nothing free known h.1 in
      record {
        is = sym ((λ i. kind_told place frame r.answer (found r) (ap kind_in (packet_ends areas r.service (plain emission (r.heard ++ ms)) o)) i ++ over_told place (was i) (known' && free')));
        has = (packet_unanswered r o h.0, subst (λ z. PacketHas z known' Work.Nothing) (sym (m refl was)) (nothing_has known'));
      }

  -- OF A SERVICE OF THE SCRIPT that has no answer yet: its answer
  record ScriptTells (answer : Option (Reply × ℕ)) (got : Option Reply) (d : Does) : Type 0 where
    is : d.told ≡ answer_told place (kind_by answer) (kind_by (answer_after frame answer got)) ++ []
    has : AnswerHas (is_some (answer_after frame answer got)) d.work

  abbrev answered : Option ReplyKind → Does
  answered kept = then_does (answered_does place kept Work.Mails) (λ w. over_does place t w)

  script_some : (answer : Option (Reply × ℕ)) (got : Option Reply) (kept : Option ReplyKind) → answer ≡ None → kept ≡ kind_by (answer_after frame answer got) → ((reply : Reply) → got ≡ Some reply → is_some (kind_in (Some reply)) ≡ true) → ScriptTells answer got (answered kept)
  script_some (Some a) got kept e k s = absurd (let bad : Some a ≡ None = e in cc)
  script_some None None kept e k s = subst (λ z. ScriptTells None None (answered z)) (sym k) (record { is = refl; has = refl })
  script_some None (Some reply) kept e k s = subst (λ z. ScriptTells None (Some reply) (answered z)) (sym k) (go (kind_in (Some reply)) refl (s reply refl))
    where
      go : (z : Option ReplyKind) → kind_in (Some reply) ≡ z → is_some z ≡ true → ScriptTells None (Some reply) (answered (kind_in (Some reply)))
      go None f g = absurd (let bad : false ≡ true = g in cc)
      go (Some kind) f g = record { is = ap (λ z. (answered z).told) f ∙ sym (ap (λ z. answer_told place None z ++ []) f); has = ap (λ z. (answered z).work) f }

  script_none : (answer : Option (Reply × ℕ)) (got : Option Reply) → answer ≡ None → got ≡ None → ScriptTells answer got (stays Work.Mails)
  script_none (Some a) got e f = absurd (let bad : Some a ≡ None = e in cc)
  script_none None (Some r) e f = absurd (let bad : Some r ≡ None = f in cc)
  script_none None None e f = record { is = refl; has = refl }

  no_mail : (r : Row Body Asked Reply) → ms ≡ [] → ends areas r.service (plain emission r.heard) ≡ None → found r ≡ None
  no_mail r e q = ap (λ z. ends areas r.service (plain emission z)) (ap (λ z. r.heard ++ z) e ∙ append-nil r.heard) ∙ q

  script_by : (got : Option Heard) (r : Row Body Asked Reply) → is_passed r.service ≡ false → r.answer ≡ None → (got ≡ None → ms ≡ []) → ends areas r.service (plain emission r.heard) ≡ None → answer_kept t.side.hand ≡ kind_by (answer_after frame r.answer (found r)) →
      ScriptTells r.answer (found r) (then_does (mails_does place got t Work.Mails) (λ w. over_does place t w))
  script_by None r p e b q k = script_none r.answer (found r) e (no_mail r (b refl) q)
  script_by (Some what) r p e b q k = script_some r.answer (found r) (answer_kept t.side.hand) e k (λ reply f. script_kind areas r.service _ reply p f)

  -- OF A PACKET: that it is over, once it is so and the hand knows its mails
  record PacketTells (free free' : Bool) (d : Does) : Type 0 where
    is : d.told ≡ over_told place free (known' && free')
    has : PacketHas free' known' d.work

  packet_by : (free free' knew knows b : Bool) → b ≡ (knows && free') → (knows ≡ true → knew ≡ true) → (free ≡ true → free' ≡ true) → PacketHas free knew Work.Packet →
      (let d = handed_where place b Work.Packet in (d.told ≡ over_told place free (knows && free')) × PacketHas free' knows d.work)
  packet_by false true knew true b e k m h = subst (λ z. (let d = handed_where place z Work.Packet in (d.told ≡ over_told place false true) × PacketHas true true d.work)) (sym e) (refl, refl)
  packet_by false false knew true b e k m h = subst (λ z. (let d = handed_where place z Work.Packet in (d.told ≡ over_told place false false) × PacketHas false true d.work)) (sym e) (refl, refl)
  packet_by false true knew false b e k m h = subst (λ z. (let d = handed_where place z Work.Packet in (d.told ≡ over_told place false false) × PacketHas true false d.work)) (sym e) (refl, inl refl)
  packet_by false false knew false b e k m h = subst (λ z. (let d = handed_where place z Work.Packet in (d.told ≡ over_told place false false) × PacketHas false false d.work)) (sym e) (refl, refl)
  packet_by true false knew knows b e k m h = absurd (let bad : false ≡ true = m refl in cc)
  packet_by true true true knows b e k m h = absurd (let bad : Work.Packet ≡ Work.Nothing = h in cc)
  packet_by true true false true b e k m h = absurd (let bad : false ≡ true = k refl in cc)
  packet_by true true false false b e k m h = subst (λ z. (let d = handed_where place z Work.Packet in (d.told ≡ over_told place true false) × PacketHas true false d.work)) (sym e) (refl, inl refl)

  -- ---- THE NEWEST SERVICE
  still_rest : (work : Work) → mail_does place t work ≡ stays work → rest_does place t work ≡ then_does (stays work) (λ w. over_does place t w)
  still_rest work e = ap (λ d. then_does d (λ w. over_does place t w)) (mails_still place t.side.heard t work e)

  -- what is asked of a row and of the hand that shows it
  pub record RowShown (r : Row Body Asked Reply) (free free' : Bool) : Type 0 where
    pub quiet : r.answer ≡ None → ends areas r.service (plain emission r.heard) ≡ None
    pub none : t.side.heard ≡ None → ms ≡ []
    pub kept : answer_kept t.side.hand ≡ kind_by (answer_after frame r.answer (found r))
    pub stays : is_other r.service ≡ false → free ≡ true → free' ≡ true
    pub side_free : is_other r.service ≡ false → is_free_side t.side ≡ (known' && free')
    pub sure : known' ≡ true → known ≡ true

  no_answer_of : (o : Option (Reply × ℕ)) → is_some o ≡ false → o ≡ None
  no_answer_of None e = refl
  no_answer_of (Some a) e = absurd (let bad : true ≡ false = e in cc)

  packet_work : (free knows : Bool) (work : Work) → PacketHas free knows work → (work ≡ Work.Packet) ⊎ (work ≡ Work.Nothing)
  packet_work false knows work h = inl h
  packet_work true true work h = inr h
  packet_work true false work h = h

  nothing_rest : rest_does place t Work.Nothing ≡ stays Work.Nothing
  nothing_rest = still_rest Work.Nothing refl

  packet_rest : rest_does place t Work.Packet ≡ handed_where place (is_free_side t.side) Work.Packet
  packet_rest = still_rest Work.Packet refl

  rests_nothing : (passes other : Bool) (r : Row Body Asked Reply) (free free' : Bool) (old : Work) → is_passed r.service ≡ passes → is_other r.service ≡ other → RowShown r free free' → old ≡ Work.Nothing → ServiceHas passes other free known (is_some r.answer) old →
      RowTells passes other r free free' (rest_does place t old)
  rests_nothing passes other r free free' old p o s e h =
      subst (λ z. RowTells passes other r free free' (rest_does place t z)) (sym e)
      (subst (λ d. RowTells passes other r free free' d) (sym nothing_rest) (row_nothing passes other r free free' p o (λ k. s.stays (o ∙ k)) (subst (λ z. ServiceHas passes other free known (is_some r.answer) z) e h)))

  script_rests : (answered : Bool) (r : Row Body Asked Reply) (free free' : Bool) (old : Work) → is_some r.answer ≡ answered → is_passed r.service ≡ false → is_other r.service ≡ true → RowShown r free free' → AnswerHas answered old → RowTells false true r free free' (rest_does place t old)
  script_rests true r free free' old a p o s h = rests_nothing false true r free free' old p o s h (subst (λ z. AnswerHas z old) (sym a) h)
  script_rests false r free free' old a p o s h =
      let e = no_answer_of r.answer a in
      let w = script_by t.side.heard r p e s.none (s.quiet e) s.kept in
      subst (λ z. RowTells false true r free free' (rest_does place t z)) (sym h) (record { is = w.is; has = w.has })

  packet_rests : (r : Row Body Asked Reply) (free free' : Bool) (old : Work) → is_passed r.service ≡ false → is_other r.service ≡ false → RowShown r free free' → is_some r.answer ≡ false → PacketHas free known old → RowTells false false r free free' (rest_does place t old)
  packet_rests r free free' old p o s none h = by (packet_work free known old h)
    where
      by : (old ≡ Work.Packet) ⊎ (old ≡ Work.Nothing) → RowTells false false r free free' (rest_does place t old)
      by (inr e) = rests_nothing false false r free free' old p o s e (none, h)
      by (inl e) =
          let w = packet_by free free' known known' (is_free_side t.side) (s.side_free o) s.sure (s.stays o) (subst (λ z. PacketHas free known z) e h) in
          subst (λ z. RowTells false false r free free' (rest_does place t z)) (sym e)
          (subst (λ d. RowTells false false r free free' d) (sym packet_rest)
          (record { is = w.0 ∙ sym (ap (λ z. z ++ over_told place free (known' && free')) (kind_told place frame r.answer (found r) (ap kind_in (packet_ends areas r.service (plain emission (r.heard ++ ms)) o)))); has = (packet_unanswered r o none, w.1) }))

  row_rests : (passes other : Bool) (r : Row Body Asked Reply) (free free' : Bool) (old : Work) → is_passed r.service ≡ passes → is_other r.service ≡ other → RowShown r free free' → ServiceHas passes other free known (is_some r.answer) old → RowTells passes other r free free' (rest_does place t old)
  row_rests true other r free free' old p o s h = rests_nothing true other r free free' old p o s h h
  row_rests false true r free free' old p o s h = script_rests (is_some r.answer) r free free' old refl p o s h
  row_rests false false r free free' old p o s h = packet_rests r free free' old p o s h.0 h.1

  -- what it tells, and what is in hand of it
  pub record NewestTells (now : Option (Row Body Asked Reply)) (free free' : Bool) (d : Does) : Type 0 where
    pub is : d.told ≡ answer_told place (kind_of now) (kind_of (option_map heard now)) ++ packet_told place (has_packet now) known' free free'
    pub has : NewestHas free' known' (option_map heard now) d.work

  pub newest_rests : (now : Option (Row Body Asked Reply)) (free free' : Bool) (old : Work) → ((r : Row Body Asked Reply) → now ≡ Some r → RowShown r free free') → NewestHas free known now old → NewestTells now free free' (rest_does place t old)
  newest_rests None free free' old s h = subst (λ z. NewestTells None free free' (rest_does place t z)) (sym h) (subst (λ d. NewestTells None free free' d) (sym nothing_rest) (record { is = refl; has = refl }))
  newest_rests (Some r) free free' old s h = (let w = row_rests (is_passed r.service) (is_other r.service) r free free' old refl refl (s r refl) h in record { is = w.is; has = w.has })

  -- with nothing in hand nothing is told
  pub newest_nothing : (now : Option (Row Body Asked Reply)) (free free' : Bool) → ((r : Row Body Asked Reply) → now ≡ Some r → is_other r.service ≡ false → free ≡ true → free' ≡ true) → NewestHas free known now Work.Nothing → NewestTells now free free' (stays Work.Nothing)
  newest_nothing None free free' s h = record { is = refl; has = refl }
  newest_nothing (Some r) free free' s h = (let w = row_nothing (is_passed r.service) (is_other r.service) r free free' refl refl (s r refl) h in record { is = w.is; has = w.has })
