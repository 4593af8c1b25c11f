-- What follows where one stage comes after another.
use Rattle.std.proofs.Common.{◌≡◌, ℕ, inl, inr, List, Option, Some, None, Result, Ok, Err, IsErrAnd, refl, sym, ◌∙◌, subst, arith}
use Rattle.qccd_messages.specs.declared.refusal.Refusal.{Refusal}
use Rattle.qccd_messages.specs.declared.refusal.Refusal.TheVariants as refusal
use Rattle.qccd_messages.specs.Cause.{Cause, Words, Read, Write, NoMemory, cause_of}
use Rattle.qccd_io.specs.Faults.{Rose}
use Rattle.qccd_io.specs.Shelf.{Holding}
use Rattle.qccd_io.proofs.Faulting.{Rose-from_later}
use Rattle.qccd_words.specs.Words.{Asked, request_of}
use Rattle.qccd_top.specs.Stages.{WordsOf}
use Rattle.qccd_top.specs.Means.{TextOf, TextFor}
use Rattle.qccd_top.specs.Call.{Output, output}
use Rattle.qccd_top.specs.Done.{IsCause, Did, Does, Writes}
use Rattle.qccd_top.specs.Stage.{Gives, Stage, ◌>>=◌, Just, IsRefusal, Answered, IsAnswer, Visits}

-- both stages pass
pub both : {A B : Type 0} (first : Stage A) (next : A → Stage B) (a : A) (b : B) → first (Gives a) → next a (Gives b) → (first >>= next) (Gives b)
unfolding ◌>>=◌
both first next a b given more = (a, given, more)

-- the first stage refuses
pub first_refuses : {A B : Type 0} (first : Stage A) (next : A → Stage B) (Rises : Type 0) (cause : Cause)
    → IsRefusal first Rises cause → IsRefusal (first >>= next) Rises cause
unfolding ◌>>=◌
first_refuses first next Rises (Read name) (inl held) = inl (inl held)
first_refuses first next Rises (Read name) (inr (reads, rises)) = inr (inl reads, rises)
first_refuses first next Rises Write why = why
first_refuses first next Rises NoMemory why = why
first_refuses first next Rises cause why = inl why

-- the first stage passes, and the second refuses
pub next_refuses : {A B : Type 0} (first : Stage A) (next : A → Stage B) (a : A) (Rises Rose : Type 0) (cause : Cause)
    → first (Gives a) → (Rises → Rose) → IsRefusal (next a) Rises cause → IsRefusal (first >>= next) Rose cause
unfolding ◌>>=◌
next_refuses first next a Rises Rose (Read name) given more (inl held) = inl (inr (a, given, held))
next_refuses first next a Rises Rose (Read name) given more (inr (reads, rises)) = inr (inr (a, given, reads), more rises)
next_refuses first next a Rises Rose Write given more why = why
next_refuses first next a Rises Rose NoMemory given more why = why
next_refuses first next a Rises Rose cause given more why = inr (a, given, why)

-- ---- a refusal and what rose before it

wider : {A : Type 0} (stage : Stage A) (Rises Rose : Type 0) (cause : Cause) → (Rises → Rose) → IsRefusal stage Rises cause → IsRefusal stage Rose cause
wider stage Rises Rose (Read name) more (inl held) = inl held
wider stage Rises Rose (Read name) more (inr (reads, rises)) = inr (reads, more rises)
wider stage Rises Rose Write more why = why
wider stage Rises Rose NoMemory more why = why
wider stage Rises Rose cause more why = why

-- the first of two stages stops
answered_stop : {A B : Type 0} (first : Stage A) (next : A → Stage B) (Rises : Type 0) (r : Result B Refusal) (e : Refusal)
    → IsRefusal first Rises (cause_of e) → IsErrAnd r (λ y. y ≡ e) → Answered (first >>= next) Rises r
answered_stop first next Rises (Ok b) e why same = absurd same
answered_stop first next Rises (Err y) e why same =
    subst (λ (x : Refusal). IsRefusal (first >>= next) Rises (cause_of x)) (sym same) (first_refuses first next Rises (cause_of e) why)

-- the first passes; Before is what rose in the calls of the further stages
answered_on : {A B : Type 0} (first : Stage A) (next : A → Stage B) (a : A) (Rises Before : Type 0) (r : Result B Refusal)
    → first (Gives a) → (Before → Rises) → Answered (next a) Before r → Answered (first >>= next) Rises r
answered_on first next a Rises Before (Ok b) given more answer = both first next a b given answer
answered_on first next a Rises Before (Err e) given more answer = next_refuses first next a Before Rises (cause_of e) given more answer

none_rises : {Rises : Type 0} → ⊥ → Rises
none_rises never = absurd never

-- ---- stages one after another

pub visit_stops : {X A B : Type 0} (told : X → Option Holding) (faults : X → ℕ) (old new : X)
    (first : Option Holding → Stage A) (next : Option Holding → A → Stage B) (r : Result B Refusal) (e : Refusal)
    → Visits told faults old new first (Err e) → IsErrAnd r (λ y. y ≡ e) → Visits told faults old new (λ t. first t >>= next t) r
visit_stops told faults old new first next r e why same = record {
  answer = answered_stop (first (told old)) (next (told old)) _ r e why.answer same;
  same = why.same;
  count = why.count;
}

pub visit_on : {X A B : Type 0} (told : X → Option Holding) (faults : X → ℕ) (old mid new : X)
    (first : Option Holding → Stage A) (next : Option Holding → A → Stage B) (a : A) (r : Result B Refusal)
    → Visits told faults old mid first (Ok a) → Visits told faults mid new (λ t. next t a) r → Visits told faults old new (λ t. first t >>= next t) r
visit_on told faults old mid new first next a r given further =
    let Before = Rose (faults mid) (faults new) in
    record {
      answer = answered_on (first (told old)) (next (told old)) a _ Before r given.answer (Rose-from_later _ _ _ given.count further.count)
          (subst (λ (t : Option Holding). Answered (next t a) Before r) given.same further.answer);
      same = further.same ∙ given.same;
      count = omega (arith, given.count, further.count);
    }

pub pure_stops : {X A B : Type 0} (told : X → Option Holding) (faults : X → ℕ) (old : X)
    (first : Stage A) (next : Option Holding → A → Stage B) (r : Result B Refusal) (e : Refusal)
    → IsAnswer first (Err e) → IsErrAnd r (λ y. y ≡ e) → Visits told faults old old (λ t. first >>= next t) r
pure_stops told faults old first next r e why same = record {
  answer = answered_stop first (next (told old)) _ r e (wider first ⊥ _ (cause_of e) none_rises why.answer) same;
  same = refl;
  count = omega arith;
}

pub pure_on : {X A B : Type 0} (told : X → Option Holding) (faults : X → ℕ) (old new : X)
    (first : Stage A) (next : Option Holding → A → Stage B) (a : A) (r : Result B Refusal)
    → IsAnswer first (Ok a) → Visits told faults old new (λ t. next t a) r → Visits told faults old new (λ t. first >>= next t) r
pure_on told faults old new first next a r given further = record {
  answer = answered_on first (next (told old)) a _ _ r given.answer (λ rises. rises) further.answer;
  same = further.same;
  count = further.count;
}

pub pure_last : {X A : Type 0} (told : X → Option Holding) (faults : X → ℕ) (old : X) (stage : Stage A) (r : Result A Refusal)
    → IsAnswer stage r → Visits told faults old old (λ t. stage) r
pure_last told faults old stage (Ok a) answer = record { answer = answer.answer; same = refl; count = omega arith }
pure_last told faults old stage (Err e) answer =
    record { answer = wider stage ⊥ _ (cause_of e) none_rises answer.answer; same = refl; count = omega arith }

-- just this value at the end
pub just_last : {X A : Type 0} (told : X → Option Holding) (faults : X → ℕ) (old : X) (a b : A) → a ≡ b → Visits told faults old old (λ t. Just b) (Ok a)
just_last told faults old a b is = record { answer = is; same = refl; count = omega arith }

-- ---- what the code of a command does

-- a stage's refusal, where nothing was taken
stage_cause : (text_of : Stage (List ℕ)) (Rises : Type 0) (out : Output) (cause : Cause)
    → IsRefusal text_of Rises cause → out.new ≡ out.old → IsCause text_of Rises out cause
stage_cause text_of Rises out Write why still = absurd why
stage_cause text_of Rises out cause why still = (why, still)

did_stop : (text_of : Stage (List ℕ)) (Rises : Type 0) (out : Output) (r : Result (Unit {0}) Refusal) (e : Refusal)
    → out.new ≡ out.old → IsRefusal text_of Rises (cause_of e) → IsErrAnd r (λ y. y ≡ e) → Did text_of Rises out r
did_stop text_of Rises out (Ok u) e still why same = absurd same
did_stop text_of Rises out (Err y) e still why same =
    subst (λ (x : Refusal). IsCause text_of Rises out (cause_of x)) (sym same) (stage_cause text_of Rises out (cause_of e) why still)

next_did : {A : Type 0} (first : Stage A) (next : A → Stage (List ℕ)) (a : A) (Rises Before : Type 0) (out : Output) (cause : Cause)
    → first (Gives a) → (Before → Rises) → IsCause (next a) Before out cause → IsCause (first >>= next) Rises out cause
next_did first next a Rises Before out Write given more why =
    record { text = why.text; means = both first next a why.text given why.means; prefix = why.prefix; rose = why.rose }
next_did first next a Rises Before out cause given more why = (next_refuses first next a Before Rises cause given more why.0, why.1)

did_on : {A : Type 0} (first : Stage A) (next : A → Stage (List ℕ)) (a : A) (Rises Before : Type 0) (out : Output) (r : Result (Unit {0}) Refusal)
    → first (Gives a) → (Before → Rises) → Did (next a) Before out r → Did (first >>= next) Rises out r
did_on first next a Rises Before out (Ok u) given more did =
    record { text = did.text; means = both first next a did.text given did.means; written = did.written }
did_on first next a Rises Before out (Err e) given more did = next_did first next a Rises Before out (cause_of e) given more did

pub does_stop : {X Y A : Type 0} (told : X → Option Holding) (faults : X → ℕ) (taken : Y → Option (List ℕ)) (out_faults : Y → ℕ) (old new : X) (out : Y)
    (first : Option Holding → Stage A) (next : Option Holding → A → Stage (List ℕ)) (r : Result (Unit {0}) Refusal) (e : Refusal)
    → Visits told faults old new first (Err e) → IsErrAnd r (λ y. y ≡ e) → Does told faults taken out_faults old new out out (λ t. first t >>= next t) r
does_stop told faults taken out_faults old new out first next r e why same = record {
  did = did_stop (first (told old) >>= next (told old)) _ (output taken out_faults out out) r e refl (first_refuses (first (told old)) (next (told old)) _ (cause_of e) why.answer) same;
  same = why.same;
  count = why.count;
  out_count = omega arith;
}

pub does_on : {X Y A : Type 0} (told : X → Option Holding) (faults : X → ℕ) (taken : Y → Option (List ℕ)) (out_faults : Y → ℕ) (old mid new : X) (out_old out_new : Y)
    (first : Option Holding → Stage A) (next : Option Holding → A → Stage (List ℕ)) (a : A) (r : Result (Unit {0}) Refusal)
    → Visits told faults old mid first (Ok a) → Does told faults taken out_faults mid new out_old out_new (λ t. next t a) r
    → Does told faults taken out_faults old new out_old out_new (λ t. first t >>= next t) r
does_on told faults taken out_faults old mid new out_old out_new first next a r given further =
    let Before = Rose (faults mid) (faults new) in
    let out = output taken out_faults out_old out_new in
    record {
      did = did_on (first (told old)) (next (told old)) a _ Before out r given.answer (Rose-from_later _ _ _ given.count further.count)
          (subst (λ (t : Option Holding). Did (next t a) Before out r) given.same further.did);
      same = further.same ∙ given.same;
      count = omega (arith, given.count, further.count);
      out_count = further.out_count;
    }

pub does_pure_stop : {X Y A : Type 0} (told : X → Option Holding) (faults : X → ℕ) (taken : Y → Option (List ℕ)) (out_faults : Y → ℕ) (old : X) (out : Y)
    (first : Stage A) (next : Option Holding → A → Stage (List ℕ)) (r : Result (Unit {0}) Refusal) (e : Refusal)
    → IsAnswer first (Err e) → IsErrAnd r (λ y. y ≡ e) → Does told faults taken out_faults old old out out (λ t. first >>= next t) r
does_pure_stop told faults taken out_faults old out first next r e why same = record {
  did = did_stop (first >>= next (told old)) _ (output taken out_faults out out) r e refl
      (first_refuses first (next (told old)) _ (cause_of e) (wider first ⊥ _ (cause_of e) none_rises why.answer)) same;
  same = refl;
  count = omega arith;
  out_count = omega arith;
}

pub does_pure_on : {X Y A : Type 0} (told : X → Option Holding) (faults : X → ℕ) (taken : Y → Option (List ℕ)) (out_faults : Y → ℕ) (old new : X) (out_old out_new : Y)
    (first : Stage A) (next : Option Holding → A → Stage (List ℕ)) (a : A) (r : Result (Unit {0}) Refusal)
    → IsAnswer first (Ok a) → Does told faults taken out_faults old new out_old out_new (λ t. next t a) r
    → Does told faults taken out_faults old new out_old out_new (λ t. first >>= next t) r
does_pure_on told faults taken out_faults old new out_old out_new first next a r given further = record {
  did = did_on first (next (told old)) a _ _ (output taken out_faults out_old out_new) r given.answer (λ rises. rises) further.did;
  same = further.same;
  count = further.count;
  out_count = further.out_count;
}

-- the text is written at the end
wrote_did : (text : List ℕ) (Rises : Type 0) (out : Output) (cause : Cause) → IsCause (Just text) ⊥ out cause → IsCause (Just text) Rises out cause
wrote_did text Rises out Write why = why
wrote_did text Rises out cause why = (wider (Just text) ⊥ Rises cause none_rises why.0, why.1)

pub does_write : {X Y : Type 0} (told : X → Option Holding) (faults : X → ℕ) (taken : Y → Option (List ℕ)) (out_faults : Y → ℕ) (old : X) (out_old out_new : Y) (text : List ℕ) (r : Result (Unit {0}) Refusal)
    → Writes taken out_faults out_old out_new text r → Does told faults taken out_faults old old out_old out_new (λ t. Just text) r
does_write told faults taken out_faults old out_old out_new text (Ok u) writes = record { did = writes.did; same = refl; count = omega arith; out_count = writes.count }
does_write told faults taken out_faults old out_old out_new text (Err e) writes =
    record { did = wrote_did text _ (output taken out_faults out_old out_new) (cause_of e) writes.did; same = refl; count = omega arith; out_count = writes.count }

-- out of memory before anything is written
pub does_starve : {X Y : Type 0} (told : X → Option Holding) (faults : X → ℕ) (taken : Y → Option (List ℕ)) (out_faults : Y → ℕ) (old : X) (out : Y)
    (text_of : Option Holding → Stage (List ℕ)) (r : Result (Unit {0}) Refusal) → IsErrAnd r (λ y. y ≡ refusal.NoMemory) → Does told faults taken out_faults old old out out text_of r
does_starve told faults taken out_faults old out text_of r starved = record {
  did = did_stop (text_of (told old)) _ (output taken out_faults out out) r refusal.NoMemory refl tt starved;
  same = refl;
  count = omega arith;
  out_count = omega arith;
}

-- ---- the words

pub does_asked : {X Y : Type 0} (told : X → Option Holding) (faults : X → ℕ) (taken : Y → Option (List ℕ)) (out_faults : Y → ℕ) (old new : X) (out_old out_new : Y)
    (words : List (List ℕ)) (asked : Asked) (r : Result (Unit {0}) Refusal) → request_of words ≡ Some asked
    → Does told faults taken out_faults old new out_old out_new (λ t. TextOf t asked) r → Does told faults taken out_faults old new out_old out_new (λ t. TextFor t words) r
does_asked told faults taken out_faults old new out_old out_new words asked r reading did =
    does_pure_on told faults taken out_faults old new out_old out_new (WordsOf words) TextOf asked r (record { answer = reading }) did

pub does_no_words : {X Y : Type 0} (told : X → Option Holding) (faults : X → ℕ) (taken : Y → Option (List ℕ)) (out_faults : Y → ℕ) (old : X) (out : Y)
    (words : List (List ℕ)) (e : Refusal) → request_of words ≡ None → cause_of e ≡ Words
    → Does told faults taken out_faults old old out out (λ t. TextFor t words) (Err e)
does_no_words told faults taken out_faults old out words e none is =
    does_pure_stop told faults taken out_faults old out (WordsOf words) TextOf (Err e) e (record { answer = subst (IsRefusal (WordsOf words) ⊥) (sym is) none }) refl
