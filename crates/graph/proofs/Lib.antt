mod Search
