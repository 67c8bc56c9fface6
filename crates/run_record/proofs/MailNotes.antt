-- WHAT IS NOTED OF ONE SLAVE'S PACKETS, and of the mails passed on to it, over a frame goes with its life.
use Rattle.std.proofs.Common.{◌≡◌, ◌==◌, ℕ, zero, suc, Bool, true, false, Option, Some, None, List, [], ◌∷◌, ◌++◌, length, map, refl, sym, ap, ◌∙◌, subst, append-nil}
use Rattle.std.specs.Prelude.{◌&&◌, if◌then◌else◌, replicate, slice_get}
use Rattle.std.proofs.lemmas.Bool.{eq-eqb}
use Rattle.std.proofs.lemmas.List.{map-append}
use Rattle.plan_ring.specs.of_mailbox_mail.declared.outcome.ReplyKind.{ReplyKind}
use Rattle.packets_heard.specs.of_master_node.declared.event.Origin.{Origin}
use Rattle.packets_heard.specs.of_master_node.declared.event.Origin.TheVariants.{Script, Forward, Gateway}
use Rattle.served_places.specs.of_life_runs.Led.{Leads}
use Rattle.served_places.specs.of_state_model.Stated.{Service}
use Rattle.served_places.specs.of_master_hand.Spoken.{Asked, is_passed}
use Rattle.run_notes.specs.of_run_book.declared.book.Answer.{Answer}
use Rattle.run_notes.specs.of_run_book.declared.book.Answer.TheVariants.{InDoubt, NotSent}
use Rattle.run_notes.specs.of_run_book.declared.book.Begun.{Begun}
use Rattle.run_notes.specs.of_run_book.declared.book.SlaveBook.{SlaveBook}
use Rattle.run_notes.specs.Handed.{AllHanded, AllWhere, AreForwarded, AreHanded, Doubts, GoesBy, HandedFirst, IsBeside, IsNotedWhere, Sound, answer_where, answers_told, answers_where, doubts, hand_behind, has_where, is_mail, is_packet, noted_where, newest_where, over_answer, still_there}
use Rattle.run_notes.specs.Notes.{answers_doubted, ended}
use Rattle.run_notes.specs.Packets.{mail_row, packet_row, rows_with}
use Rattle.run_notes.specs.Reports.{AllReport}
use Rattle.run_notes.specs.Slaves.{slave_row, slave_rows}
use Rattle.run_notes.specs.Unsent.{numbers_in, with_number}
use Rattle.run_notes.specs.declared.notes.Notes.{Notes}
use Rattle.run_notes.proofs.Handed.{all_answered, answers_append, last_map}
use Rattle.run_record.proofs.MailLives.{Goes}
use Rattle.run_record.specs.Mails.{mail_begun, mail_over, overs_behind}
use Rattle.served_places.specs.of_segment_ring.declared.wire.Fate.TheVariants as Fates
use Rattle.packets_heard.specs.of_slave_node.Node.{Node}
use Rattle.packets_heard.specs.of_slave_server.declared.server.SlaveServer.{SlaveServer}

-- ---- BEHIND A RETURN

module _ (test : Origin → Bool) (beside : IsBeside test) (frame : ℕ) (kinds : List ReplyKind) (n n' : Notes) (overs : List (Option ℕ)) where
  first_so : (was is : Bool) → Goes was is kinds → was ≡ true → HandedFirst kinds
  first_so was is (Goes.on w i k) t = subst HandedFirst (sym k) tt
  first_so was is (Goes.over rest w i k) t = subst HandedFirst (sym k) refl
  first_so was is (Goes.none w i) t = absurd (let bad : true ≡ false = sym t ∙ w in cc)

  told_so : (was is : Bool) → Goes was is kinds → answers_told frame was kinds (map over_answer overs) ≡ map over_answer (overs_behind Fates.Pass frame was is overs)
  told_so was is (Goes.on w i k) = (λ j. answers_told frame (w j) (k j) (map over_answer overs)) ∙ sym (λ j. map over_answer (overs_behind Fates.Pass frame (w j) (i j) overs))
  told_so was is (Goes.over rest w i k) =
      (λ j. answers_told frame (w j) (k j) (map over_answer overs)) ∙ last_map over_answer (Some frame) overs ∙ sym (λ j. map over_answer (overs_behind Fates.Pass frame (w j) (i j) overs))
  told_so was is (Goes.none w i) = (λ j. answers_told frame (w j) kinds (map over_answer overs)) ∙ sym (λ j. map over_answer (overs_behind Fates.Pass frame (w j) is overs))

  there_so : (was is : Bool) → Goes was is kinds → still_there was kinds ≡ is
  there_so was is (Goes.on w i k) = (λ j. still_there (w j) (k j)) ∙ sym i
  there_so was is (Goes.over rest w i k) = (λ j. still_there (w j) (k j)) ∙ sym i
  there_so was is (Goes.none w i) = (λ j. still_there (w j) kinds) ∙ sym i

  pub back_handed : (was is : Bool) → IsNotedWhere test overs was n → Sound n → GoesBy frame kinds n n' → Goes was is kinds → length n'.gave ≡ length n.gave → IsNotedWhere test (overs_behind Fates.Pass frame was is overs) is n'
  back_handed was is h s by goes same =
      let g = by test beside s (λ t. first_so was is goes (sym h.hand ∙ t)) in
      record {
        answers = g.answers ∙ (λ i. answers_told frame (h.hand i) kinds (h.answers i)) ∙ told_so was is goes;
        hand = g.hand ∙ (λ i. still_there (h.hand i) kinds && eq-eqb (length n'.gave) (length n.gave) same i) ∙ and_true (still_there was kinds) ∙ there_so was is goes;
      }
    where
      and_true : (b : Bool) → (b && true) ≡ b
      and_true true = refl
      and_true false = refl

-- ---- BEHIND A LOSS

pub lost_handed : (test : Origin → Bool) → IsBeside test → (frame : ℕ) (n n' : Notes) (overs : List (Option ℕ)) (was is : Bool) → IsNotedWhere test overs was n → Sound n → GoesBy frame [] n n' → is ≡ (was && length n'.gave == length n.gave) → IsNotedWhere test overs is n'
lost_handed test beside frame n n' overs was is h s by e =
    let g = by test beside s (λ t. tt) in
    record {
      answers = g.answers ∙ none_told (has_where test n) (noted_where test n) ∙ h.answers;
      hand = g.hand ∙ ap (λ z. z && length n'.gave == length n.gave) (none_there (has_where test n) ∙ h.hand) ∙ sym e;
    }
  where
    none_told : (b : Bool) (as' : List Answer) → answers_told frame b [] as' ≡ as'
    none_told true as' = refl
    none_told false as' = refl

    none_there : (b : Bool) → still_there b [] ≡ b
    none_there true = refl
    none_there false = refl

-- ---- BEFORE A FRAME

-- what came into hand of a slave, by the rows of a kind that came, which aren't over yet; and whether such a one is in hand then
pub data Comes (b : Option (Service Asked)) (rows : List (ℕ × ℕ)) (open_ones : List (Option ℕ)) (was is : Bool) : Type 0 where
  nothing : b ≡ None → rows ≡ [] → is ≡ was → Comes b rows open_ones was is
  one : open_ones ≡ None ∷ [] → (rows ≡ [] → ⊥) → was ≡ false → is ≡ true → Comes b rows open_ones was is
  other : rows ≡ [] → was ≡ false → is ≡ false → Comes b rows open_ones was is

-- ROWS OF ONE KIND, which aren't of the scripts: those of packets, or those of mails that are passed on; `others` are those of the other
pub record IsKind (test : Origin → Bool) (row others : Origin → ℕ → List (ℕ × ℕ)) : Type 0 where
  none : (o : Origin) (frame : ℕ) → row o frame ≡ [] → test o ≡ false
  only : (o : Origin) (frame : ℕ) (ns : List ℕ) → with_number o ns ≡ [] → others o frame ≡ [] → (test o ≡ true) × (ns ≡ [])
  there : (o : Origin) (frame : ℕ) (rows : List (ℕ × ℕ)) → test o ≡ true → row o frame ++ rows ≡ [] → ⊥
  doubt : (o : Origin) (frame : ℕ) → answer_where test o InDoubt ≡ map (λ r. InDoubt) (row o frame)

pub mails_kind : IsKind is_mail mail_row packet_row
mails_kind = record { none = none; only = only; there = there; doubt = doubt }
  where
    none : (o : Origin) (frame : ℕ) → mail_row o frame ≡ [] → is_mail o ≡ false
    none (Script number) frame e = refl
    none (Forward number) frame e = refl
    none (Gateway number) frame e = absurd (cc)

    only : (o : Origin) (frame : ℕ) (ns : List ℕ) → with_number o ns ≡ [] → packet_row o frame ≡ [] → (is_mail o ≡ true) × (ns ≡ [])
    only (Script number) frame ns e f = absurd (cc)
    only (Forward number) frame ns e f = absurd (cc)
    only (Gateway number) frame ns e f = (refl, e)

    there : (o : Origin) (frame : ℕ) (rows : List (ℕ × ℕ)) → is_mail o ≡ true → mail_row o frame ++ rows ≡ [] → ⊥
    there (Script number) frame rows e f = absurd (let bad : false ≡ true = e in cc)
    there (Forward number) frame rows e f = absurd (let bad : false ≡ true = e in cc)
    there (Gateway number) frame rows e f = absurd (cc)

    doubt : (o : Origin) (frame : ℕ) → answer_where is_mail o InDoubt ≡ map (λ r. InDoubt) (mail_row o frame)
    doubt (Script number) frame = refl
    doubt (Forward number) frame = refl
    doubt (Gateway number) frame = refl

pub packets_kind : IsKind is_packet packet_row mail_row
packets_kind = record { none = none; only = only; there = there; doubt = doubt }
  where
    none : (o : Origin) (frame : ℕ) → packet_row o frame ≡ [] → is_packet o ≡ false
    none (Script number) frame e = refl
    none (Forward number) frame e = absurd (cc)
    none (Gateway number) frame e = refl

    only : (o : Origin) (frame : ℕ) (ns : List ℕ) → with_number o ns ≡ [] → mail_row o frame ≡ [] → (is_packet o ≡ true) × (ns ≡ [])
    only (Script number) frame ns e f = absurd (cc)
    only (Forward number) frame ns e f = (refl, e)
    only (Gateway number) frame ns e f = absurd (cc)

    there : (o : Origin) (frame : ℕ) (rows : List (ℕ × ℕ)) → is_packet o ≡ true → packet_row o frame ++ rows ≡ [] → ⊥
    there (Script number) frame rows e f = absurd (let bad : false ≡ true = e in cc)
    there (Forward number) frame rows e f = absurd (cc)
    there (Gateway number) frame rows e f = absurd (let bad : false ≡ true = e in cc)

    doubt : (o : Origin) (frame : ℕ) → answer_where is_packet o InDoubt ≡ map (λ r. InDoubt) (packet_row o frame)
    doubt (Script number) frame = refl
    doubt (Forward number) frame = refl
    doubt (Gateway number) frame = refl

both_none : {X : Type 0} (xs ys : List X) → xs ++ ys ≡ [] → (xs ≡ []) × (ys ≡ [])
both_none [] ys e = (refl, e)
both_none (x ∷ xs) ys e = absurd (cc)

module _ (test : Origin → Bool) (row others : Origin → ℕ → List (ℕ × ℕ)) (kind : IsKind test row others) where
  newest_none : (bs : List Begun) → rows_with row bs ≡ [] → newest_where test bs ≡ false
  newest_none [] e = refl
  newest_none (b ∷ []) e = kind.none b.origin b.frame (both_none (row b.origin b.frame) [] e).0
  newest_none (b ∷ c ∷ bs) e = newest_none (c ∷ bs) (both_none (row b.origin b.frame) (rows_with row (c ∷ bs)) e).1

  -- rows that are all of this kind
  record AreOnly (bs : List Begun) : Type 0 where
    numbers : numbers_in bs ≡ []
    outside : rows_with others bs ≡ []

  only_first : (b : Begun) (bs : List Begun) → AreOnly (b ∷ bs) → (test b.origin ≡ true) × AreOnly bs
  only_first b bs a =
      let p = both_none (others b.origin b.frame) (rows_with others bs) a.outside in
      let m = kind.only b.origin b.frame (numbers_in bs) a.numbers p.0 in
      (m.0, record { numbers = m.1; outside = p.1 })

  newest_only : (b : Begun) (bs : List Begun) → AreOnly (b ∷ bs) → newest_where test (b ∷ bs) ≡ true
  newest_only b [] a = (only_first b [] a).0
  newest_only b (c ∷ bs) a = newest_only c bs (only_first b (c ∷ bs) a).1

  none_only : (bs : List Begun) → AreOnly bs → rows_with row bs ≡ [] → bs ≡ []
  none_only [] a e = refl
  none_only (b ∷ bs) a e = absurd (kind.there b.origin b.frame (rows_with row bs) (only_first b bs a).0 e)

  newest_append : (bs : List Begun) (c : Begun) (cs : List Begun) → newest_where test (bs ++ c ∷ cs) ≡ newest_where test (c ∷ cs)
  newest_append [] c cs = refl
  newest_append (b ∷ []) c cs = refl
  newest_append (b ∷ d ∷ bs) c cs = newest_append (d ∷ bs) c cs

  -- the answers of the rows that came
  more_answers : (bs : List Begun) → answers_where test bs (doubts bs) ≡ map (λ r. InDoubt) (rows_with row bs)
  more_answers [] = refl
  more_answers (b ∷ bs) = (λ i. kind.doubt b.origin b.frame i ++ more_answers bs i) ∙ sym (map-append (λ r. InDoubt) (row b.origin b.frame) (rows_with row bs))

  -- the rows that came: just these of the kind, each not over yet; and where nothing else came into hand they are all
  pub record CameSo (bs : List Begun) (b : Option (Service Asked)) (rows : List (ℕ × ℕ)) (open_ones : List (Option ℕ)) : Type 0 where
    pub mails : rows_with row bs ≡ rows
    pub answers : map (λ r. InDoubt) rows ≡ map over_answer open_ones
    pub numbers : (open_ones ≡ [] → b ≡ None) → numbers_in bs ≡ []
    pub outside : (open_ones ≡ [] → b ≡ None) → rows_with others bs ≡ []

  pub turn_handed : (n n' : Notes) (overs : List (Option ℕ)) (was is : Bool) (b : Option (Service Asked)) (rows : List (ℕ × ℕ)) (open_ones : List (Option ℕ)) (d : Doubts n n') → Sound n → IsNotedWhere test overs was n → CameSo d.more b rows open_ones → Comes b rows open_ones was is →
      IsNotedWhere test (overs ++ open_ones) is n'
  turn_handed n n' overs was is b rows open_ones d s h came comes = record {
    answers = (λ i. answers_where test (d.begun i) (d.answers i)) ∙ answers_append test n.begun d.more (answers_doubted n) (doubts d.more) (all_answered n s)
        ∙ (λ i. h.answers i ++ (more_answers d.more ∙ ap (map (λ r. InDoubt)) came.mails ∙ came.answers) i) ∙ sym (map-append over_answer overs open_ones);
    hand = (λ i. d.hand i && newest_where test (d.begun i)) ∙ by comes;
  }
    where
      none_more : d.more ≡ [] → (hand_behind d.more n.in_hand && newest_where test (n.begun ++ d.more)) ≡ was
      none_more e = (λ i. hand_behind (e i) n.in_hand && newest_where test (n.begun ++ e i)) ∙ ap (λ z. n.in_hand && newest_where test z) (append-nil n.begun) ∙ h.hand

      some_more : (bs : List Begun) (b : Bool) → newest_where test bs ≡ b → d.more ≡ bs → (bs ≡ [] → was ≡ b) → (hand_behind bs n.in_hand && newest_where test (n.begun ++ bs)) ≡ b
      some_more [] b e same f = subst (λ z. (hand_behind z n.in_hand && newest_where test (n.begun ++ z)) ≡ b) same (none_more same ∙ f refl)
      some_more (c ∷ cs) b e same f = newest_append n.begun c cs ∙ e

      bare : (open_ones ≡ [] → b ≡ None) → AreOnly d.more
      bare none = record { numbers = came.numbers none; outside = came.outside none }

      by : Comes b rows open_ones was is → (hand_behind d.more n.in_hand && newest_where test (n.begun ++ d.more)) ≡ is
      by (Comes.nothing e none same) = none_more (none_only d.more (bare (λ z. e)) (came.mails ∙ none)) ∙ sym same
      by (Comes.one over some free there) = go d.more refl (bare (λ none. absurd (let bad : None ∷ [] ≡ [] = sym over ∙ none in cc))) ∙ sym there
        where
          go : (bs : List Begun) → d.more ≡ bs → AreOnly d.more → (hand_behind d.more n.in_hand && newest_where test (n.begun ++ d.more)) ≡ true
          go [] same only = absurd (some (sym came.mails ∙ ap (λ z. rows_with row z) same))
          go (c ∷ cs) same only = (λ i. hand_behind (same i) n.in_hand && newest_where test (n.begun ++ same i)) ∙ newest_append n.begun c cs ∙ newest_only c cs (subst AreOnly same only)
      by (Comes.other none was_not not) = some_more d.more false (newest_none d.more (came.mails ∙ none)) refl (λ e. was_not) ∙ sym not

-- the answers of mails that came into hand
pub begun_answers : (number frame : ℕ) (b : Option (Service Asked)) → map (λ r. InDoubt) (mail_begun number frame b) ≡ map over_answer (mail_over b)
begun_answers number frame None = refl
begun_answers number frame (Some (Service.State target)) = refl
begun_answers number frame (Some (Service.Mails q)) = go (is_passed q)
  where
    go : (z : Bool) → map {A = ℕ × ℕ} (λ r. InDoubt) (if z then (number, frame) ∷ [] else []) ≡ map over_answer (if z then None ∷ [] else [])
    go true = refl
    go false = refl

-- ---- AT THE END

ended_answers : (test : Origin → Bool) (n : Notes) → Sound n → answers_where test n.begun (ended n) ≡ noted_where test n
ended_answers test n s =
    ap (λ (bs : List Begun). answers_where test bs (ended n)) (sym (append-nil n.begun)) ∙ answers_append test n.begun [] (answers_doubted n) (replicate n.left NotSent) (all_answered n s) ∙ append-nil (noted_where test n)

-- of each slave such rows have just these answers in a book
abbrev AreAnswered : (Origin → Bool) → (ℕ → List (Option ℕ)) → List SlaveBook → Type 0
AreAnswered test overs rows = (k : ℕ) (row : SlaveBook) → slice_get rows k ≡ Some row → answers_where test row.begun row.answers ≡ map over_answer (overs k)

first_row : (test : Origin → Bool) (overs : ℕ → List (Option ℕ)) (row : SlaveBook) (rows : List SlaveBook) → answers_where test row.begun row.answers ≡ map over_answer (overs 0) → AreAnswered test (λ k. overs (suc k)) rows → AreAnswered test overs (row ∷ rows)
first_row test overs row rows h rest zero r at = subst (λ (z : SlaveBook). answers_where test z.begun z.answers ≡ map over_answer (overs 0)) (let same : row ≡ r = cc in same) h
first_row test overs row rows h rest (suc k) r at = rest k r at

no_row : (test : Origin → Bool) (overs : ℕ → List (Option ℕ)) → AreAnswered test overs []
no_row test overs k row at = absurd (let bad : None ≡ Some row = at in cc)

-- what is noted of such rows stands in the book
pub rows_answered : (test : Origin → Bool) (recover : ℕ) (nodes : List (Node SlaveServer)) (notes : List Notes) (as' : List Leads) (overs : ℕ → List (Option ℕ)) (goes : ℕ → Bool) → AllReport as' notes → AllWhere test overs goes notes → AreAnswered test overs (slave_rows recover nodes notes)
rows_answered test recover [] notes as' overs goes r h = no_row test overs
rows_answered test recover (node ∷ nodes) [] as' overs goes r h = no_row test overs
rows_answered test recover (node ∷ nodes) (n ∷ notes) [] overs goes r h = absurd r
rows_answered test recover (node ∷ nodes) (n ∷ notes) (a ∷ as') overs goes r h =
    first_row test overs (slave_row recover node n) (slave_rows recover nodes notes) (ended_answers test n (record { aligned = r.0.aligned; last = r.0.last }) ∙ (h 0 n refl).answers)
    (rows_answered test recover nodes notes as' (λ k. overs (suc k)) (λ k. goes (suc k)) r.1 (λ k m e. h (suc k) m e))

-- of mails that are passed on
pub rows_handed : (recover : ℕ) (nodes : List (Node SlaveServer)) (notes : List Notes) (as' : List Leads) (overs : ℕ → List (Option ℕ)) (goes : ℕ → Bool) → AllReport as' notes → AllHanded overs goes notes → AreHanded overs (slave_rows recover nodes notes)
rows_handed recover nodes notes as' overs goes r h = rows_answered is_mail recover nodes notes as' overs goes r h

-- and of packets
pub rows_forwarded : (recover : ℕ) (nodes : List (Node SlaveServer)) (notes : List Notes) (as' : List Leads) (overs : ℕ → List (Option ℕ)) (goes : ℕ → Bool) → AllReport as' notes → AllWhere is_packet overs goes notes → AreForwarded overs (slave_rows recover nodes notes)
rows_forwarded recover nodes notes as' overs goes r h = rows_answered is_packet recover nodes notes as' overs goes r h
