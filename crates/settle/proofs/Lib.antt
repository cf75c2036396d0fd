mod Fields
mod Replies
