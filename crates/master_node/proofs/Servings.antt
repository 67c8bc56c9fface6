-- A mail is asked of a slave of a serving; and a master that only tells leaves those that wait.
use Rattle.std.proofs.Common.{◌≡◌, ◌≤◌, ◌<◌, ◌+◌, ℕ, zero, suc, Bool, true, Option, None, Some, List, [], ◌∷◌, ◌++◌, refl, sym, ap, ◌∙◌, subst, length, arith, get_or, set}
use Rattle.std.specs.Prelude.{map, All, is_some, ⊤}
use Rattle.std.proofs.lemmas.List.Elements.{All-nil, All-head, All-tail, All-push}
use Rattle.life_runs.specs.Lives.{LifeKept}
use Rattle.life_runs.specs.First.{leads_from}
use Rattle.life_runs.specs.of_master_hand.Spoken as Talk
use Rattle.life_runs.specs.of_master_side.Passing.{passing_seen}
use Rattle.life_runs.specs.of_master_side.declared.passing.Passing.{Passing}
use Rattle.life_runs.specs.of_link_mails.Body.{Body}
use Rattle.life_runs.specs.of_master_duty.Reply.{Reply}
use Rattle.life_runs.specs.of_segment_model.Record.{nothing_kept}
use Rattle.life_runs.specs.of_master_tour.Counting.{StandCounts}
use Rattle.life_runs.specs.of_master_tour.Passing.{StandPassing}
use Rattle.life_runs.specs.of_master_tour.declared.stop.Stand.{Stand}
use Rattle.life_runs.specs.of_life_model.Lives.{Life, new_life}
use Rattle.life_runs.specs.of_master_side.Counts.{CountsAt}
use Rattle.life_runs.proofs.of_master_side.Kepts.{new_kept}
use Rattle.life_runs.specs.of_segment_plan.declared.service.Service as Plan
use Rattle.life_runs.specs.of_segment_plan.declared.slave.SlaveSpec.{SlaveSpec}
use Rattle.life_runs.specs.of_frame_view.View.{Lens}
use Rattle.life_runs.specs.of_frame_view.Shares.{AllBoth, AllThree}
use Rattle.life_runs.specs.Led.{Leads, speech_at}
use Rattle.life_runs.specs.of_master_hand.Shown.{knows}
use Rattle.life_runs.specs.of_master_hand.declared.hand.InHand.{InHand}
use Rattle.life_runs.specs.of_master_side.declared.hand.Hand.{Ghosts}
use Rattle.life_runs.specs.of_mailbox_mail.declared.mail.Mail.{Mail}
use Rattle.life_runs.specs.of_master_tour.Walks.{StepsAt}
use Rattle.life_runs.specs.of_master_tour.declared.stop.Stop.{Stop}
use Rattle.life_runs.specs.Served.{Keyed, Serves, MayAsk, asked_at, all_serve, new_serves}
use Rattle.master_node.specs.Appends.{AppendsMail}
use Rattle.master_node.specs.Inhand.{HasInHand}
use Rattle.master_node.specs.Lives.{waiting_at}
use Rattle.master_node.specs.Named.{IsHanded}
use Rattle.master_node.specs.Serving.{FitsAt, IsAsked, IsPaced, IsServed, MayPass, TellsOnly, run_lead, waits_of}
use Rattle.master_node.specs.Shows.{IsLead, WaitsNone, lived_of}
use Rattle.master_node.specs.declared.node.MasterNode.{MasterNode}
use Rattle.master_node.specs.declared.post.Asked.{Asked}
use Rattle.master_node.specs.declared.post.Post.{Post}
use Rattle.master_node.specs.declared.post.Work.{Work}
use Rattle.master_node.proofs.Inhand.{new_inhand}

abbrev EachOf : {T : Type 0} → (T → Type 0) → List T → Type 0
EachOf P [] = ⊤
EachOf P (x ∷ xs) = P x × EachOf P xs

abbrev pub keyed : Asked → Keyed
keyed a = record { key = a.key; mail = a.mail }

keyed_more : (as' bs : List Asked) → map keyed (as' ++ bs) ≡ map keyed as' ++ map keyed bs
keyed_more [] bs = refl
keyed_more (a ∷ as') bs = ap (λ z. keyed a ∷ z) (keyed_more as' bs)

pub keyed_long : (as' : List Asked) → length (map keyed as') ≡ length as'
keyed_long [] = refl
keyed_long (a ∷ as') = ap suc (keyed_long as')

-- nothing of the lives changes by it
pub leads_same : {S : Type 0} (f : Leads → S) (place : ℕ) (k : Keyed) (ws : List Serves) → map (λ w. f (run_lead w)) (asked_at place k ws) ≡ map (λ w. f (run_lead w)) ws
leads_same f zero k [] = refl
leads_same f (suc place) k [] = refl
leads_same f zero k (w ∷ ws) = refl
leads_same f (suc place) k (w ∷ ws) = ap (λ z. f w.lead ∷ z) (leads_same f place k ws)

module _ {G : Ghosts InHand} (lens : ℕ → Lens) (recover made key : ℕ) (mail : Mail) where
  -- A MAIL THAT MAY BE ASKED was, and waits behind those that do
  pub record AsksSo (place : ℕ) (ws : List Serves) (qs : List Post) (ss : List (Stop InHand G)) : Type 0 where
    pub asks : Keyed
    pub is : IsAsked key mail asks
    pub may : MayAsk lens place asks ws
    pub each : AllThree (λ w p s. IsServed lens recover made w p s) (asked_at place asks ws) qs ss

  one_more : (w : Serves) (p q : Post) (s : Stop InHand G) (a : AppendsMail key mail p.mails.items q.mails.items) → q.work ≡ p.work → 6 + length mail.body.items ≤ (lens w.lead.lived.spot.station).out → IsServed lens recover made w p s →
      IsServed lens recover made (record w { asked = w.asked ++ keyed a.asked ∷ []; waits = w.waits ++ keyed a.asked ∷ [] }) q s
  one_more w p q s a o f h = record {
    lives = h.lives;
    script = h.script;
    number = h.number;
    short = h.short;
    passing = h.passing;
    kept = h.kept;
    counts = h.counts;
    pace = h.pace;
    waits = ap (map keyed) a.waits ∙ keyed_more p.mails.items (a.asked ∷ []) ∙ ap (λ z. z ++ keyed a.asked ∷ []) h.waits;
    fits = All-push (λ k. MayPass (lens w.lead.lived.spot.station).out k) w.waits (keyed a.asked) h.fits (a.bare.0, a.bare.1, subst (λ z. 6 + length z ≤ (lens w.lead.lived.spot.station).out) (sym a.body) f);
    handed = subst (λ z. IsHanded z w.hand w.lead.lived.life) (sym o) h.handed;
    inhand = subst (λ z. HasInHand (speech_at lens w.lead.lived.spot) (knows s.side.hand.course) w.lead.lived.life w.lead.lived.life.stand z) (sym o) h.inhand;
  }

  pub asked_so : (place : ℕ) (ws : List Serves) (ps qs : List Post) (ss : List (Stop InHand G)) → waiting_at ps place < 64 → FitsAt lens place (length mail.body.items) ws → AllThree (λ w p s. IsServed lens recover made w p s) ws ps ss →
      StepsAt (λ p q. AppendsMail key mail p.mails.items q.mails.items × (q.work ≡ p.work)) place ps qs → AsksSo place ws qs ss
  asked_so zero [] ps qs ss l f h e = absurd f
  asked_so (suc place) [] ps qs ss l f h e = absurd f
  asked_so zero (w ∷ ws) [] qs [] l f h e = absurd h
  asked_so zero (w ∷ ws) [] qs (s ∷ ss) l f h e = absurd h
  asked_so (suc place) (w ∷ ws) [] qs [] l f h e = absurd h
  asked_so (suc place) (w ∷ ws) [] qs (s ∷ ss) l f h e = absurd h
  asked_so zero (w ∷ ws) (p ∷ ps) [] ss l f h e = absurd e
  asked_so (suc place) (w ∷ ws) (p ∷ ps) [] ss l f h e = absurd e
  asked_so zero (w ∷ ws) (p ∷ ps) (q ∷ qs) [] l f h e = absurd h
  asked_so (suc place) (w ∷ ws) (p ∷ ps) (q ∷ qs) [] l f h e = absurd h
  asked_so zero (w ∷ ws) (p ∷ ps) (q ∷ qs) (s ∷ ss) l f h e =
      let a = e.0.0 in
      record {
        asks = record { key = a.asked.key; mail = a.asked.mail };
        is = record { key_is = a.key_is; bare = a.bare; kind = a.kind; body = a.body };
        may = (subst (λ z. length z < 64) h.0.waits (subst (λ n. n < 64) (sym (keyed_long p.mails.items)) l), subst (λ z. 6 + length z ≤ (lens w.lead.lived.spot.station).out) (sym a.body) f);
        each = (one_more w p q s a e.0.1 f h.0, subst (λ z. AllThree (λ w p s. IsServed lens recover made w p s) ws z ss) (sym e.1) h.1);
      }
  asked_so (suc place) (w ∷ ws) (p ∷ ps) (q ∷ qs) (s ∷ ss) l f h e =
      let a = asked_so place ws ps qs ss l f h.1 e.1 in
      record { asks = a.asks; is = a.is; may = a.may; each = (subst (λ z. IsServed lens recover made w z s) (sym e.0) h.0, a.each) }

-- A MASTER THAT ONLY TELLS
pub tells_refl : (m : MasterNode) → TellsOnly m m
tells_refl m = record { tour = refl; made = refl; mails = refl }

pub tells_then : (m n o : MasterNode) → TellsOnly n o → TellsOnly m n → TellsOnly m o
tells_then m n o b a = record { tour = b.tour ∙ a.tour; made = b.made ∙ a.made; mails = b.mails ∙ a.mails }

pub tells_told : (m n : MasterNode) → n.tour ≡ m.tour → n.made ≡ m.made → n.posts ≡ m.posts → TellsOnly m n
tells_told m n e f p = record { tour = e; made = f; mails = ap (λ z. map waits_of z.items) p }

-- one post's mails stay
pub posts_set : (ps : List Post) (place : ℕ) (v w : Post) → place < length ps → v ≡ get_or ps place v → w.mails.items ≡ v.mails.items → map waits_of (set ps place w) ≡ map waits_of ps
posts_set [] place v w l g e = absurd (omega (arith, l))
posts_set (p ∷ ps) zero v w l g e = ap (λ z. map keyed z ∷ map waits_of ps) (e ∙ ap (λ z. z.mails.items) g)
posts_set (p ∷ ps) (suc place) v w l g e = ap (λ z. waits_of p ∷ z) (posts_set ps place v w (omega (arith, l)) g e)

-- one more of both
pub both_more : {A S : Type 0} (R : A → S → Type 0) (xs : List A) (ss : List S) (x : A) (s : S) → AllBoth R xs ss → R x s → AllBoth R (xs ++ x ∷ []) (ss ++ s ∷ [])
both_more R [] [] x s a p = (p, tt)
both_more R [] (t ∷ ss) x s a p = absurd a
both_more R (y ∷ xs) [] x s a p = absurd a
both_more R (y ∷ xs) (t ∷ ss) x s a p = (a.0, both_more R xs ss x s a.1 p)

-- BEFORE THE FIRST FRAME
pub run_all : (paces : List ℕ) (as' : List Leads) → map run_lead (all_serve paces as') ≡ as'
run_all [] [] = refl
run_all (pace ∷ paces) [] = refl
run_all [] (a ∷ as') = ap (λ z. a ∷ z) (run_all [] as')
run_all (pace ∷ paces) (a ∷ as') = ap (λ z. a ∷ z) (run_all paces as')

pub lives_all : (paces : List ℕ) (as' : List Leads) → map (λ w. lived_of (run_lead w)) (all_serve paces as') ≡ map lived_of as'
lives_all [] [] = refl
lives_all (pace ∷ paces) [] = refl
lives_all [] (a ∷ as') = ap (λ z. a.lived ∷ z) (lives_all [] as')
lives_all (pace ∷ paces) (a ∷ as') = ap (λ z. a.lived ∷ z) (lives_all paces as')

-- a life before the first frame
abbrev pub IsNewLife : Life Body Talk.Asked Reply → Type 0
IsNewLife l = (state : ℕ) × (l ≡ new_life state)

pub leads_kept : (rows : List (ℕ × Plan.Service)) (place : ℕ) (specs : List SlaveSpec) → EachOf (λ a. LifeKept nothing_kept a.lived.life × IsNewLife a.lived.life) (leads_from rows place specs)
leads_kept rows place [] = tt
leads_kept rows place (s ∷ ss) = ((λ e. new_kept, (_, refl)), leads_kept rows (suc place) ss)

pub none_some : {T : Type 0} (o : Option T) → o ≡ None → is_some o ≡ true → ⊥
none_some None e t = absurd (cc)
none_some (Some x) e t = absurd (cc)

plain_passing : (stand : Stand) (awaits : Bool) (p : Option Passing) (l : Life Body Talk.Asked Reply) → p ≡ None → l.era.passing ≡ None → StandPassing stand awaits p l
plain_passing (Stand.Opening up) awaits p l e f = λ n. record { is = f ∙ sym (ap passing_seen e); awaited = λ t. absurd (none p e t) }
  where
    none : (o : Option Passing) → o ≡ None → is_some o ≡ true → ⊥
    none None e t = absurd (cc)
    none (Some x) e t = absurd (cc)
plain_passing Stand.Open awaits p l e f = record { is = f ∙ sym (ap passing_seen e); awaited = λ t. absurd (none p e t) }
  where
    none : (o : Option Passing) → o ≡ None → is_some o ≡ true → ⊥
    none None e t = absurd (cc)
    none (Some x) e t = absurd (cc)
plain_passing Stand.Gone awaits p l e f = tt

none_counts : (stand : Stand) (at : Option ℕ) (pace : ℕ) → at ≡ None → StandCounts stand at pace 0 true
none_counts (Stand.Opening up) at pace e = λ f. e
none_counts Stand.Open at pace e = subst (λ z. CountsAt z pace 0 true) (sym e) (record { is = refl; early = tt })
none_counts Stand.Gone at pace e = tt

module _ {G : Ghosts InHand} (lens : ℕ → Lens) (recover : ℕ) where
  first_served : (pace : ℕ) (a : Leads) (p : Post) (s : Stop InHand G) → IsLead lens recover a s → IsPaced pace s → WaitsNone p → p.work ≡ Work.Nothing → LifeKept nothing_kept a.lived.life → IsNewLife a.lived.life → IsServed lens recover 0 (new_serves pace a) p s
  first_served pace a p s l n w o k new = record {
    lives = l.lives;
    script = l.script;
    number = l.number;
    short = l.short;
    passing = plain_passing s.stand _ s.side.passing a.lived.life l.unpassed l.own;
    kept = k;
    counts = none_counts s.stand s.side.read_at s.side.pace n.0;
    pace = n.1;
    waits = ap (map keyed) w;
    fits = All-nil (λ k. MayPass (lens a.lived.spot.station).out k);
    handed = record { named = λ key e. absurd (let bad = sym o ∙ e in cc); only = λ i t. absurd (none_some a.lived.life.era.passing l.own t) };
    inhand = subst (λ z. HasInHand (speech_at lens a.lived.spot) (knows s.side.hand.course) a.lived.life a.lived.life.stand z) (sym o)
        (subst (λ (z : Life Body Talk.Asked Reply). HasInHand (speech_at lens a.lived.spot) (knows s.side.hand.course) z z.stand Work.Nothing) (sym new.1) (new_inhand (speech_at lens a.lived.spot) (knows s.side.hand.course) new.0));
  }

  pub firsts_served : (paces : List ℕ) (as' : List Leads) (ps : List Post) (ss : List (Stop InHand G)) → AllBoth (λ a s. IsLead lens recover a s) as' ss → AllBoth (λ pace s. IsPaced pace s) paces ss → All WaitsNone ps → All (λ p. p.work ≡ Work.Nothing) ps → length ps ≡ length ss →
      EachOf (λ a. LifeKept nothing_kept a.lived.life × IsNewLife a.lived.life) as' → AllThree (λ w p s. IsServed lens recover 0 w p s) (all_serve paces as') ps ss
  firsts_served [] [] [] [] l n w o e k = tt
  firsts_served (pace ∷ paces) [] [] [] l n w o e k = absurd n
  firsts_served paces [] (p ∷ ps) [] l n w o e k = absurd (omega (arith, e))
  firsts_served paces [] ps (s ∷ ss) l n w o e k = absurd l
  firsts_served paces (a ∷ as') ps [] l n w o e k = absurd l
  firsts_served paces (a ∷ as') [] (s ∷ ss) l n w o e k = absurd (omega (arith, e))
  firsts_served [] (a ∷ as') (p ∷ ps) (s ∷ ss) l n w o e k = absurd n
  firsts_served (pace ∷ paces) (a ∷ as') (p ∷ ps) (s ∷ ss) l n w o e k = (first_served pace a p s l.0 n.0 (All-head WaitsNone p ps w) (All-head (λ p. p.work ≡ Work.Nothing) p ps o) k.0.0 k.0.1, firsts_served paces as' ps ss l.1 n.1 (All-tail WaitsNone p ps w) (All-tail (λ p. p.work ≡ Work.Nothing) p ps o) (omega (arith, e)) k.1)
