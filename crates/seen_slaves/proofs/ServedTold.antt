-- A mail that is passed on is told as far as it has come, all along a slave's life, where what comes back of its frames is the return of what was sent.
use Rattle.std.proofs.Common.{◌≡◌, ◌≢◌, ℕ, ◌&&◌, Bool, true, false, Option, Some, None, List, [], ◌∷◌, ◌++◌, length, refl, sym, ap, ◌∙◌, subst, arith, if◌then◌else◌, inl, inr}
use Rattle.std.specs.Prelude.{nat_le, nat_lt}
use Rattle.std.proofs.lemmas.Bool.Decides.{nat_tests}
use Rattle.idle_slaves.specs.of_life_runs.Lives.{came_so, lost_so}
use Rattle.idle_slaves.specs.of_exchange_model.Exchange.{Speech}
use Rattle.idle_slaves.specs.of_exchange_model.Rows.{Row, begun, left}
use Rattle.idle_slaves.specs.of_frame_view.Seen.{seen}
use Rattle.idle_slaves.specs.of_frame_view.View.{Lens}
use Rattle.idle_slaves.specs.of_life_model.Lives.{AsksOpen, Era, Life, Spot, era_back, era_lost, era_next, granted, new_side, passes, passing_begins}
use Rattle.idle_slaves.specs.of_life_model.Own.{own}
use Rattle.idle_slaves.specs.of_link_mails.Body.{Body}
use Rattle.idle_slaves.specs.of_link_model.Counters.{next_counter}
use Rattle.idle_slaves.specs.of_link_model.Frames.{all_accepted}
use Rattle.idle_slaves.specs.of_link_model.Mails.{LinkMail}
use Rattle.served_rings.specs.of_master_duty.Reply.{Reply}
use Rattle.served_rings.specs.of_master_hand.Spoken.{Asked}
use Rattle.served_rings.specs.of_master_side.Passing.{news_back, news_lost}
use Rattle.idle_slaves.proofs.of_master_tour.Backs.{own_back, own_lost, seen_aims}
use Rattle.served_rings.proofs.of_few_replies.Passings.{counted_same, counted_told}
use Rattle.served_rings.specs.of_few_replies.Led.{counted_news}
use Rattle.idle_slaves.specs.of_segment_model.Ends.{Passing}
use Rattle.idle_slaves.specs.of_segment_model.Record.{Kept, News, all_told, back_news, kept_after, nothing_kept, told_behind}
use Rattle.idle_slaves.specs.of_segment_model.Returned.{Returns}
use Rattle.idle_slaves.specs.of_segment_model.Seats.{Side, first_left, next_mail, side_back, side_begins, side_holds, side_lost, writes}
use Rattle.idle_slaves.specs.of_segment_model.Slaves.{Datagram, grams}
use Rattle.served_rings.proofs.of_segment_model.Posts.{IsFresh, IsKnown, KeptOut, kept_frame}
use Rattle.served_rings.proofs.of_segment_model.Written.{Tells, back_frees, back_lasts, back_tells, frame_tells, has_written, losts_out, none_written}
use Rattle.seen_slaves.proofs.Returned.{SameTold, own_told, returned_told}
use Rattle.seen_slaves.proofs.Sending.{StageBy, stage_on, untold_heard}
use Rattle.seen_slaves.specs.Told.{EraTold, IsToldBy, NoneTold}
use Rattle.idle_slaves.specs.of_state_model.Stated.{Service}
use Rattle.idle_slaves.specs.of_state_model.Accounts.{Account, Duty, Pick, account_begins, is_free, mails_begin, new_account, starts}

abbrev Sides : Type 0
Sides = Side Body Asked Reply

-- what the side knows of the last mail told, and how far the one in hand is
pub record ToldAs (kept : Kept) (passing : Option Passing) (d : Side Body Asked Reply) : Type 0 where
  pub out : KeptOut d.fresh d.halves.out.holding d.halves.out.last kept.told
  pub stage : StageBy passing d

pub new_told : ToldAs nothing_kept None new_side
new_told = record { out = record { last_is = refl; again = λ m e. absurd (let no : None ≡ Some m = e in cc) }; stage = tt }

-- so it is told
pub told_by : (kept : Kept) (e : Era Body Asked Reply) → ToldAs kept e.passing e.side → EraTold e
told_by kept e k = λ p is. by p (subst (λ o. StageBy o e.side) is k.stage)
  where
    held : (b : Bool) → KeptOut b e.side.halves.out.holding e.side.halves.out.last kept.told → b ≡ true → e.side.halves.out.holding ≢ None
    held true out f none = (let z : IsFresh e.side.halves.out.holding e.side.halves.out.last kept.told = out in let no : Some z.mail ≡ None = sym z.holds ∙ none in cc)
    held false out f none = absurd (let no : false ≡ true = f in cc)

    by : (p : Passing) → StageBy (Some p) e.side → IsToldBy p e.side
    by Passing.Waiting (inl u) = inl u
    by Passing.Waiting (inr f) = inr (held e.side.fresh k.out f)
    by Passing.Sent s = s
    by Passing.Boxed s = tt
    by Passing.Served s = tt
    by Passing.Answered s = tt

not_less : (n : ℕ) → nat_lt n n ≡ false
not_less n = grind (arith, nat_tests)

and_first : (a b : Bool) → (a && b) ≡ true → a ≡ true
and_first true b e = refl
and_first false b e = e

-- an idle half has nothing fresh
idle_known : (fresh : Bool) (holding : Option (LinkMail Body)) (last kept : ℕ) → holding ≡ None → KeptOut fresh holding last kept → IsKnown holding last kept
idle_known false holding last kept e k = k
idle_known true holding last kept e k = (let f : IsFresh holding last kept = k in absurd (let bad : None ≡ Some f.mail = sym e ∙ f.holds in cc))

module _ (x : Speech Body Asked Reply) (acknowledged : Asked → Bool) (more : Body → Bool) (passed : Asked → Bool) (frame : ℕ) (kept : Kept) where
  -- ---- WHAT COMES INTO HAND
  module _ (d : Side Body Asked Reply) (a : Account Asked Reply) where
    -- halves and flag stay
    abbrev Out : Sides → Type 0
    Out e = KeptOut e.fresh e.halves.out.holding e.halves.out.last kept.told

    began_out : (now : Option (Row Body Asked Reply)) (w : Option Asked) → Out d → Out (side_begins x frame d now w)
    began_out now None k = k
    began_out None (Some q) k = go (x.valid q)
      where
        go : (b : Bool) → Out (if b then record d { now = Some (begun q frame) } else d)
        go true = k
        go false = k
    began_out (Some r) (Some q) k = go (x.valid q && is_free x d (Some r))
      where
        go : (b : Bool) → Out (if b then record d { past = d.past ++ r ∷ []; now = Some (begun q frame) } else d)
        go true = k
        go false = k

    abbrev then_passes : Option Passing → Account Asked Reply → Option (Service Asked) → Option Passing
    then_passes o new begin = passing_begins x acknowledged more passed o a new begin

    new_row : (q : Asked) (now : Option (Row Body Asked Reply)) → (x.valid q && is_free x d now) ≡ true → (side_begins x frame d now (Some q)).now ≡ Some (begun q frame)
    new_row q None e = ap (λ (b : Bool). (if b then record d { now = Some (begun q frame) } else d).now) (and_first (x.valid q) true e)
    new_row q (Some r) e = ap (λ (b : Bool). (if b then record d { past = d.past ++ r ∷ []; now = Some (begun q frame) } else d).now) e

    -- none does that is passed on
    same_stage : (q : Asked) (e : Sides) → StageBy (if passed q && nat_lt (length a.started) (length a.started) then Some Passing.Waiting else None) e
    same_stage q e = go (passed q)
      where
        go : (b : Bool) → StageBy (if b && nat_lt (length a.started) (length a.started) then Some Passing.Waiting else None) e
        go false = tt
        go true = subst (λ (b : Bool). StageBy (if b then Some Passing.Waiting else None) e) (sym (not_less (length a.started))) tt

    mails_stage : (q : Asked) (c : Bool) → (x.valid q && is_free x d d.now) ≡ c →
        StageBy (if passed q && nat_lt (length a.started) (length (if c then record a { started = starts a (Service.Mails q) frame } else a).started) then Some Passing.Waiting else None) (side_begins x frame d d.now (Some q))
    mails_stage q false e = same_stage q (side_begins x frame d d.now (Some q))
    mails_stage q true e = go (passed q && nat_lt (length a.started) (length (starts a (Service.Mails q) frame)))
      where
        go : (b : Bool) → StageBy (if b then Some Passing.Waiting else None) (side_begins x frame d d.now (Some q))
        go true = inl (subst (λ (z : Option (Row Body Asked Reply)). NoneTold z) (sym (new_row q d.now e)) refl)
        go false = tt

    begins_stage : (hand : Option Duty) (begin : Option (Service Asked)) → StageBy (then_passes None (account_begins x acknowledged frame d a hand begin) begin) (side_begins x frame d d.now (mails_begin hand begin))
    begins_stage None None = tt
    begins_stage (Some duty) None = tt
    begins_stage None (Some (Service.State target)) = tt
    begins_stage (Some duty) (Some (Service.State target)) = tt
    begins_stage (Some duty) (Some (Service.Mails q)) = same_stage q d
    begins_stage None (Some (Service.Mails q)) = mails_stage q (x.valid q && is_free x d d.now) refl

    -- one that is in hand stays
    begin_stage : (o : Option Passing) (pick : Pick Asked) → StageBy o d →
        StageBy (then_passes o (account_begins x acknowledged frame d a a.hand (granted o pick).begin) (granted o pick).begin) (side_begins x frame d d.now (mails_begin a.hand (granted o pick).begin))
    begin_stage None pick s = begins_stage a.hand pick.begin
    begin_stage (Some p) pick s = s

  -- the next mail is taken up
  held_stage : (o : Option Passing) (e : Sides) (m : Body) → StageBy o e → StageBy o (side_holds e (m ∷ []))
  held_stage None e m s = tt
  held_stage (Some Passing.Waiting) e m s = inr refl
  held_stage (Some Passing.Sent) e m s = λ none. (let no : Some _ ≡ None = none in cc)
  held_stage (Some Passing.Boxed) e m s = tt
  held_stage (Some Passing.Served) e m s = tt
  held_stage (Some Passing.Answered) e m s = tt

  holds_told : (o : Option Passing) (e : Sides) → ToldAs kept o e → (hold : Bool) → ToldAs kept o (side_holds e (next_mail x e.now e.halves.out.holding hold))
  holds_told o e k hold = go e.now e.halves.out.holding refl hold
    where
      first : e.halves.out.holding ≡ None → (ms : List Body) → ToldAs kept o (side_holds e (first_left ms))
      first free [] = k
      first free (m ∷ ms) =
          let known = idle_known e.fresh e.halves.out.holding e.halves.out.last kept.told free k.out in
          record {
            out = record { mail = record { counter = next_counter e.halves.out.last; body = m }; holds = refl; next = ap next_counter known.last_is; last_is = refl };
            stage = held_stage o e m k.stage;
          }

      go : (now : Option (Row Body Asked Reply)) (holding : Option (LinkMail Body)) → e.halves.out.holding ≡ holding → (hold : Bool) → ToldAs kept o (side_holds e (next_mail x now holding hold))
      go now holding f false = k
      go None holding f true = k
      go (Some r) (Some m) f true = k
      go (Some r) None f true = first f (left x r)

  pub next_told : (l : Life Body Asked Reply) (pick : Pick Asked) → ToldAs kept l.era.passing l.era.side → (let e = era_next x acknowledged more passed frame l.era pick in ToldAs kept e.passing e.side)
  next_told l pick k =
      let a = l.era.account in
      let p = granted l.era.passing pick in
      let w = mails_begin a.hand p.begin in
      let d = side_begins x frame l.era.side l.era.side.now w in
      let o = passing_begins x acknowledged more passed l.era.passing a (account_begins x acknowledged frame l.era.side a a.hand p.begin) p.begin in
      holds_told o d (record { out = began_out l.era.side a l.era.side.now w k.out; stage = begin_stage l.era.side a l.era.passing pick k.stage }) p.hold

  -- ---- A FRAME, by what it told of the mail held
  module _ (station : ℕ) (ds : List (Datagram Body)) (l : Life Body Asked Reply) (k : ToldAs kept l.era.passing l.era.side)
      (t : Tells kept.told l.era.side.halves.out.holding (writes station (grams ds)) (all_told station kept.told (grams ds)) (told_behind station kept.told (grams ds))) where
    abbrev d : Sides
    d = l.era.side

    -- it came back
    back_side : (counts : Bool) → ToldAs (kept_after station kept (came_so ds)) (passes x acknowledged more passed l.era.passing (news_back station kept counts ds)) (side_back x frame station ds d)
    back_side counts =
        let ns = back_news station kept.heard ds in
        let same = counted_same counts ns in
        let e = side_back x frame station ds d in
        let frees = back_frees station kept.heard d.halves ds in
        let lasts = back_lasts station d.halves (grams ds) in
        let w = writes station (grams ds) in
        let out = kept_frame d.fresh w (has_written ns) d.halves.out.holding d.halves.out.last kept.told (told_behind station kept.told (grams ds)) (all_told station kept.told (grams ds)) t (none_written station kept.heard ds) k.out in
        record {
          out = subst (λ (h : Option (LinkMail Body)). KeptOut e.fresh h e.halves.out.last (told_behind station kept.told (grams ds))) (sym frees)
              (subst (λ (n : ℕ). KeptOut e.fresh (if has_written ns then None else d.halves.out.holding) n (told_behind station kept.told (grams ds))) (sym lasts) out);
          stage = subst (λ (zs : List (News Body)). StageBy (passes x acknowledged more passed l.era.passing zs) e) (sym (counted_told counts (all_told station kept.told (grams ds)) ns))
              (stage_on x acknowledged more passed d e (counted_news counts ns) (same.told ∙ back_tells station kept.heard ds) (untold_heard x frame (all_accepted station d.halves (grams ds)) d.now) (frees ∙ ap (λ (b : Bool). if b then None else d.halves.out.holding) (sym same.written))
              l.era.passing kept.told (told_behind station kept.told (grams ds)) w (all_told station kept.told (grams ds)) t k.out refl k.stage);
        }

    -- it was lost
    lost_side : ToldAs (kept_after station kept (lost_so ds)) (passes x acknowledged more passed l.era.passing (news_lost station kept ds)) (side_lost station ds d)
    lost_side =
        let e = side_lost station ds d in
        let same = losts_out station d.halves (grams ds) in
        let holding : e.halves.out.holding ≡ d.halves.out.holding = ap (λ o. o.holding) same in
        let w = writes station (grams ds) in
        let out = kept_frame d.fresh w false d.halves.out.holding d.halves.out.last kept.told (told_behind station kept.told (grams ds)) (all_told station kept.told (grams ds)) t (λ z. refl) k.out in
        record {
          out = subst (λ (h : Option (LinkMail Body)). KeptOut e.fresh h e.halves.out.last (told_behind station kept.told (grams ds))) (sym holding)
              (subst (λ (n : ℕ). KeptOut e.fresh d.halves.out.holding n (told_behind station kept.told (grams ds))) (sym (ap (λ o. o.last) same)) out);
          stage = stage_on x acknowledged more passed d e [] refl (λ u. u) holding l.era.passing kept.told (told_behind station kept.told (grams ds)) w (all_told station kept.told (grams ds)) t k.out refl k.stage;
        }

-- what the slave's datagram of the frame that was sent tells, its return tells
tells_same : (station last : ℕ) (holding : Option (LinkMail Body)) (ds es : List (Datagram Body)) → SameTold station last ds es → Tells last holding (writes station (grams ds)) (all_told station last (grams ds)) (told_behind station last (grams ds)) →
    Tells last holding (writes station (grams es)) (all_told station last (grams es)) (told_behind station last (grams es))
tells_same station last holding ds es s t =
    subst (λ (w : Bool). Tells last holding w (all_told station last (grams es)) (told_behind station last (grams es))) s.writes_is
    (subst (λ (ms : List Body). Tells last holding (writes station (grams ds)) ms (told_behind station last (grams es))) s.told
    (subst (λ (n : ℕ). Tells last holding (writes station (grams ds)) (all_told station last (grams ds)) n) s.behind t))

module _ (x : Speech Body Asked Reply) (acknowledged : Asked → Bool) (more : Body → Bool) (passed : Asked → Bool) (frame : ℕ) (kept : Kept) (lens : ℕ → Lens) (spot : Spot) (some : nat_le 1 spot.station ≡ true) (octets : List ℕ) (l : Life Body Asked Reply)
    (k : ToldAs kept l.era.passing l.era.side) (asks : AsksOpen spot.station l.era (seen lens octets)) where
  abbrev mine : Sides
  mine = l.era.side

  tells : Tells kept.told l.era.side.halves.out.holding (writes spot.station (grams (seen lens octets))) (all_told spot.station kept.told (grams (seen lens octets))) (told_behind spot.station kept.told (grams (seen lens octets)))
  tells = tells_same spot.station kept.told mine.halves.out.holding (own spot.station (seen lens octets)) (seen lens octets) (own_told spot.station kept.told (seen lens octets) (seen_aims lens octets spot.station some))
      (frame_tells spot.station kept.told mine.halves (grams (own spot.station (seen lens octets))) asks.halves)

  -- BEHIND A LOST FRAME
  pub lost_told : (let e = era_lost x acknowledged more passed spot.station (news_lost spot.station kept (seen lens octets)) (seen lens octets) l.era in ToldAs (kept_after spot.station kept (lost_so (seen lens octets))) e.passing e.side)
  lost_told =
      own_lost x (λ e. ToldAs (kept_after spot.station kept (lost_so (seen lens octets))) (passes x acknowledged more passed l.era.passing (news_lost spot.station kept (seen lens octets))) e) spot.station (seen lens octets) mine
      (seen_aims lens octets spot.station some) (lost_side x acknowledged more passed frame kept spot.station (seen lens octets) l k tells)

  -- AND BEHIND ONE THAT CAME BACK
  pub back_told : (came : List ℕ) (counts : Bool) → Returns (seen lens octets) (seen lens came) →
      (let e = era_back x acknowledged more passed spot.station frame (news_back spot.station kept counts (seen lens came)) (seen lens came) l.era in ToldAs (kept_after spot.station kept (came_so (seen lens came))) e.passing e.side)
  back_told came counts r =
      own_back x (λ e a. ToldAs (kept_after spot.station kept (came_so (seen lens came))) (passes x acknowledged more passed l.era.passing (news_back spot.station kept counts (seen lens came))) e) frame spot.station (seen lens came) mine new_account
      (seen_aims lens came spot.station some)
      (back_side x acknowledged more passed frame kept spot.station (seen lens came) l k
      (tells_same spot.station kept.told mine.halves.out.holding (seen lens octets) (seen lens came) (returned_told spot.station kept.told (seen lens octets) (seen lens came) r) tells) counts)
