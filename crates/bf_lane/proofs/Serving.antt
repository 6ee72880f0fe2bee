-- One more try of a worker.
use Rattle.std.proofs.Common.{◌≡◌, ◌∙◌, ℕ, true, false, List, [], ◌∷◌, ◌++◌, length, sym, refl, ap, subst, All, rules, arith, Option}
use Rattle.std.proofs.lemmas.List.Elements.{All-append}
use Rattle.crossbeam_queue.specs.Passes.{Pass, view, IsPassOf, IsSamePass}
use Rattle.crossbeam_queue.specs.declared.array_queue.Doing.{Doing}
use Rattle.crossbeam_queue.specs.declared.array_queue.Slotted.{Slotted}
use Rattle.bf_value.specs.declared.name.JobName.{JobName}
use Rattle.bf_xcom.specs.declared.values.Given.{Given}
use Rattle.bf_try.specs.declared.answers.Raw.{Raw}
use Rattle.bf_try.specs.Asked.{Asked}
use Rattle.bf_lane.specs.declared.messages.Job.{Job}
use Rattle.bf_lane.specs.declared.messages.Job.TheVariants.{Run, Stop}
use Rattle.bf_lane.specs.declared.messages.Answer.{Answer}
use Rattle.bf_lane.specs.declared.relay.Log.{Log}
use Rattle.bf_lane.specs.Relay.{log}
use Rattle.bf_lane.specs.Lanes.{asked, asked_by, answered, all_runs, IsAllowedBy, Answers}
use Rattle.bf_lane.specs.Service.{HasServed}

-- so far each try that it took has its answer
pub record IsServing {Q A B C : Type 0} (may_answer : JobName → Given → Raw → Type 0) (may_give_up : JobName → Given → Type 0)
    (jobs : Slotted (Option Job) (Doing Job (Log Job)) Q A) (results : Slotted (Option Answer) (Doing Answer (Log Answer)) B C)
    (takes : Pass Job (Log Job)) (sends : Pass Answer (Log Answer)) : Type 0 where
  pub of_jobs : IsPassOf jobs takes
  pub of_results : IsPassOf results sends
  pub runs : all_runs (view takes).taken ≡ true
  pub took : view takes ≡ log false true [] (view takes).taken
  pub sent : view sends ≡ log true false (view sends).put []
  pub answers : Answers may_answer may_give_up (view takes).taken (view sends).put

pub asked_append : (xs ys : List Job) → asked (xs ++ ys) ≡ asked xs ++ asked ys
asked_append [] ys = refl
asked_append (Run t ∷ xs) ys = ap (λ l. t ∷ l) (asked_append xs ys)
asked_append (Stop ∷ xs) ys = asked_append xs ys

pub answered_append : (xs ys : List Answer) → answered (xs ++ ys) ≡ answered xs ++ answered ys
answered_append [] ys = refl
answered_append (a ∷ xs) ys = ap (λ l. asked_by a ∷ l) (answered_append xs ys)

pub all_runs_run : (xs : List Job) (t : Asked) → all_runs xs ≡ true → all_runs (xs ++ Run t ∷ []) ≡ true
all_runs_run [] t h = refl
all_runs_run (Run s ∷ xs) t h = all_runs_run xs t h
all_runs_run (Stop ∷ xs) t h = cc

all_one : {X : Type 0} (P : X → Type 0) (x : X) → P x → All P (x ∷ [])
all_one P x p = search rules

module _ {T Q A : Type 0} where
  pub same_of : (q : Slotted (Option T) (Doing T (Log T)) Q A) (p r : Pass T (Log T)) → IsPassOf q p → IsSamePass p r → IsPassOf q r
  same_of q p r h s = (s.0 ∙ h.0, s.2 ∙ h.1)

module _ (may_answer : JobName → Given → Raw → Type 0) (may_give_up : JobName → Given → Type 0) where
  pub answers_more : (taken : List Job) (sent : List Answer) (t : Asked) (a : Answer) → Answers may_answer may_give_up taken sent → asked_by a ≡ t → IsAllowedBy may_answer may_give_up a
      → Answers may_answer may_give_up (taken ++ Run t ∷ []) (sent ++ a ∷ [])
  answers_more taken sent t a h is ok =
      record {
        same = answered_append sent (a ∷ []) ∙ (λ i. h.same i ++ is i ∷ []) ∙ sym (asked_append taken (Run t ∷ []));
        allowed = All-append (IsAllowedBy may_answer may_give_up) sent (a ∷ []) h.allowed (all_one (IsAllowedBy may_answer may_give_up) a ok);
      }

  pub serving_one : {Q A B C : Type 0} (jobs : Slotted (Option Job) (Doing Job (Log Job)) Q A) (results : Slotted (Option Answer) (Doing Answer (Log Answer)) B C)
      (k l : Pass Job (Log Job)) (r s : Pass Answer (Log Answer)) (t : Asked) (a : Answer)
      → IsServing may_answer may_give_up jobs results k r
      → IsSamePass k l → view l ≡ log (view k).puts (view k).takes (view k).put ((view k).taken ++ Run t ∷ [])
      → IsSamePass r s → view s ≡ log (view r).puts (view r).takes ((view r).put ++ a ∷ []) (view r).taken
      → asked_by a ≡ t → IsAllowedBy may_answer may_give_up a
      → IsServing may_answer may_give_up jobs results l s
  serving_one jobs results k l r s t a h kl el rs es is ok =
      let taken : (view l).taken ≡ (view k).taken ++ Run t ∷ [] = ap (λ (v : Log Job). v.taken) el in
      let put : (view s).put ≡ (view r).put ++ a ∷ [] = ap (λ (v : Log Answer). v.put) es in
      record {
        of_jobs = same_of jobs k l h.of_jobs kl;
        of_results = same_of results r s h.of_results rs;
        runs = rw taken (all_runs_run (view k).taken t h.runs);
        took = el ∙ (λ i. log (h.took i).puts (h.took i).takes (h.took i).put (sym taken i));
        sent = es ∙ (λ i. log (h.sent i).puts (h.sent i).takes (sym put i) (h.sent i).taken);
        answers = subst (λ (p : List Job × List Answer). Answers may_answer may_give_up p.0 p.1) (λ i. (sym taken i, sym put i)) (answers_more (view k).taken (view r).put t a h.answers is ok);
      }
