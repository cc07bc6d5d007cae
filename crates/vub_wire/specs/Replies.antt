-- The bytes of replies ("Message Specification").
use Rattle.std.specs.Prelude.{◌≡◌, ⊤, ℕ, true, List, [], ◌++◌, length, replicate}
use Rattle.byteorder.specs.Endian.{little_bytes}
use Rattle.vub_wire.specs.declared.numbers.TheConstants.{VERSION, REPLY_FLAGS}
use Rattle.vub_wire.specs.declared.messages.Header.{Header}
use Rattle.vub_wire.specs.declared.messages.Reply.{Reply}
use Rattle.vub_wire.specs.declared.messages.ReplyBody.{ReplyBody}
use Rattle.vub_wire.specs.declared.messages.ReplyBody.TheVariants as bodies
use Rattle.vub_wire.specs.declared.replies.Kind.{Kind}
use Rattle.vub_wire.specs.declared.replies.Kind.TheVariants as kinds
use Rattle.vub_wire.specs.Flags.{version, marks_reply}
use Rattle.vub_wire.specs.Requests.{kind_at}
use Rattle.vub_wire.specs.Grammar.{Fits32, Fits64, pair_bytes, config_bytes, ConfigFits, inflight_bytes, InflightFits, tail_size, header_bytes}

-- ---- kinds

-- what a body is; an empty one replies to a request for config space
abbrev pub kind_of : ReplyBody → Kind
kind_of (bodies.Number n) = kinds.Number
kind_of (bodies.State index num) = kinds.State
kind_of (bodies.Config c) = kinds.Config
kind_of bodies.Empty = kinds.Config
kind_of (bodies.Inflight x) = kinds.Inflight

-- ---- the bytes of replies

-- the payload of a reply; the tail of a long in-flight payload is free
abbrev pub body_bytes : ReplyBody → List ℕ → List ℕ
body_bytes (bodies.Number n) tail = little_bytes 8 n
body_bytes (bodies.State index num) tail = pair_bytes index num
body_bytes (bodies.Config c) tail = config_bytes c
body_bytes bodies.Empty tail = []
body_bytes (bodies.Inflight x) tail = inflight_bytes x tail

abbrev pub BodyFits : ReplyBody → Type 0
BodyFits (bodies.Number n) = Fits64 n
BodyFits (bodies.State index num) = Fits32 index × Fits32 num
BodyFits (bodies.Config c) = ConfigFits c
BodyFits bodies.Empty = ⊤
BodyFits (bodies.Inflight x) = InflightFits x

abbrev pub IsFreeTail : ReplyBody → List ℕ → Type 0
IsFreeTail (bodies.Inflight x) tail = length tail ≡ tail_size x.long
IsFreeTail b tail = tail ≡ []

abbrev pub reply_header : ℕ → ℕ → ℕ → Header
reply_header request flags size = record { request = request; flags = flags; size = size }

-- the bytes are a whole reply; of its flags the version and the reply bit alone are fixed when read
pub record IsReply (bytes : List ℕ) (r : Reply) : Type 0 where
  pub flags : ℕ
  pub tail : List ℕ
  pub is : bytes ≡ header_bytes (reply_header r.request flags (length (body_bytes r.body tail))) ++ body_bytes r.body tail
  pub request : Fits32 r.request
  pub flags_fit : Fits32 flags
  pub version_is : version flags ≡ VERSION
  pub is_reply : marks_reply flags ≡ true
  pub kind : kind_at r.request ≡ kind_of r.body
  pub fits : BodyFits r.body
  pub free : IsFreeTail r.body tail

-- ---- writing

abbrev pub reply_tail : ReplyBody → List ℕ
reply_tail (bodies.Inflight x) = replicate (tail_size x.long) 0
reply_tail b = []

abbrev pub written_body : ReplyBody → List ℕ
written_body b = body_bytes b (reply_tail b)

-- version 1 and the reply bit
abbrev pub reply_bytes : Reply → List ℕ
reply_bytes r = header_bytes (reply_header r.request REPLY_FLAGS (length (written_body r.body))) ++ written_body r.body
